-- The first fault of a span, by what a block of a number answers: reads and writes are both such.
use Rattle.std.proofs.Common.{◌≡◌, ℕ, suc, List, [], ◌∷◌, None, Option, Result, refl, ap, ◌∙◌}
use Rattle.store.specs.declared.fault.StoreFault.{StoreFault}
use Rattle.store.specs.Blocks.{Block, read_at, write_at}
use Rattle.host.specs.declared.fault.HostFault.{HostFault}
use Rattle.transfer.specs.Segments.{met, read_fault, write_fault}

abbrev pub fault_by : (ℕ → Option Block → Result (Unit {0}) StoreFault) → ℕ → ℕ → ℕ → List (Option Block) → Option HostFault
fault_by answer u b a [] = None
fault_by answer u b a (o ∷ os) = met (answer b o) u a (fault_by answer u (suc b) (suc a) os)

-- A definition with the same two equations is the same.
module _ (answer : ℕ → Option Block → Result (Unit {0}) StoreFault) (fault : ℕ → ℕ → ℕ → List (Option Block) → Option HostFault)
    (none : (u b a : ℕ) → fault u b a [] ≡ None)
    (next : (u b a : ℕ) (o : Option Block) (os : List (Option Block)) → fault u b a (o ∷ os) ≡ met (answer b o) u a (fault u (suc b) (suc a) os)) where
  by_equations : (u b a : ℕ) (os : List (Option Block)) → fault u b a os ≡ fault_by answer u b a os
  by_equations u b a [] = none u b a
  by_equations u b a (o ∷ os) = next u b a o os ∙ ap (met (answer b o) u a) (by_equations u (suc b) (suc a) os)

pub read_faults : (u b a : ℕ) (os : List (Option Block)) → read_fault u b a os ≡ fault_by read_at u b a os
read_faults = by_equations read_at read_fault (λ u b a. refl) (λ u b a o os. refl)

pub write_faults : (u b a : ℕ) (os : List (Option Block)) → write_fault u b a os ≡ fault_by write_at u b a os
write_faults = by_equations write_at write_fault (λ u b a. refl) (λ u b a o os. refl)
