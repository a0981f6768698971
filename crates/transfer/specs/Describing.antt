-- What the segment of an Extended Describe comes to.
use Rattle.std.specs.Prelude.{◌≡◌, ℕ, true, List, ◌++◌, length, drop, None, Ok, Err, Result}
use Rattle.store.specs.Blocks.{Block}
use Rattle.flex.specs.declared.status.Status.{Status}
use Rattle.flex.specs.declared.unit_map.UnitMap.{UnitMap}
use Rattle.describe.specs.Descriptions.{description}
use Rattle.describe.specs.Readers.{ReadBack}
use Rattle.host.specs.declared.progress.Progress.{Progress}
use Rattle.host.specs.declared.transaction.Transaction.{Transaction}
use Rattle.host.specs.Messages.{describes}

-- The buffer has the description in front, from which a reader learns of the units all that there is to learn; its other bytes and every block stay,
-- and no block is tried.
pub record Told (map : UnitMap) (h : ℕ) (t : Transaction) (p : Progress) (bs bs' : List Block) (given left : List ℕ) : Type 0 where
  pub read_back : ReadBack map h left
  pub written : left ≡ description map h ++ drop (length (description map h)) given
  pub blocks : bs' ≡ bs
  pub untried : p ≡ record { tried = 0; outcome = t.outcome; fault = None }

-- The law of an Extended Describe: so it is, if its segment is not refused.
abbrev pub DescribeLaw : Result Progress Status → UnitMap → ℕ → Transaction → List Block → List Block → List ℕ → List ℕ → Type 0
DescribeLaw (Ok p) map h t bs bs' given left = describes t.command ≡ true → Told map h t p bs bs' given left
DescribeLaw (Err s) map h t bs bs' given left = Unit {0}
