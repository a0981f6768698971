-- What the bytes of a trace ask for, where it can be played.
use Rattle.std.specs.Prelude.{◌≡◌, ℕ, List, Some, None, Ok, Option}
use Rattle.image.specs.declared.refusal.Refusal.{Refusal}
use Rattle.flex.specs.Maps.{Makes}
use Rattle.trace.specs.declared.play.Playable.{Playable}
use Rattle.trace.specs.Heads.{Heading}

-- Its head is whole, the image is not refused, the head's units make the map, and the calls are what follows the head.
pub record IsPlayable (head : Option (Heading × List ℕ)) (refusal : Option Refusal) (p : Playable) : Type 0 where
  pub heading : Heading
  pub is : head ≡ Some (heading, p.calls.now)
  pub accepted : refusal ≡ None
  pub device : p.device ≡ heading.device
  pub made : Makes heading.units heading.end (Ok p.map)
