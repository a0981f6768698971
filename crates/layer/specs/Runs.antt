-- Runs of blocks.
use Rattle.std.specs.Prelude.{ℕ, ◌-◌, Bool, ◌&&◌, nat_le, nat_lt}
use Rattle.layer.specs.declared.run.Run.{Run}

-- Block i is one of the run. The run may hang over the store's end.
abbrev pub in_run : Run → ℕ → Bool
in_run run i = nat_le run.first i && nat_lt (i - run.first) run.count

-- The run of no blocks.
abbrev pub no_blocks : Run
no_blocks = record { first = 0; count = 0 }

-- The run that has every block of any store: no store has so many.
abbrev pub all_blocks : Run
all_blocks = record { first = 0; count = 4294967295 }
