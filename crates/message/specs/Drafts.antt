-- A draft that is changed in place, beside what is answered.
use Rattle.std.specs.Prelude.{ℕ, Ok, Err, Result}
use Rattle.message.specs.declared.draft.Draft.{Draft}
use Rattle.flex.specs.declared.status.Status.{Status}

-- The draft as it is left, or the refusal.
abbrev pub drafted : Draft → Result (Unit {0}) Status → Result Draft Status
drafted d (Ok u) = Ok d
drafted d (Err s) = Err s

-- The same with the bytes that were taken.
abbrev pub stepped : Draft → Result ℕ Status → Result (Draft × ℕ) Status
stepped d (Ok n) = Ok (d, n)
stepped d (Err s) = Err s
