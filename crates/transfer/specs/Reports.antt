-- The report of a transaction: 13 bytes.
use Rattle.std.specs.Prelude.{ℕ, ◌/◌, ◌%◌, ◌^◌, List, [], ◌∷◌, replicate, Option, Some, None}
use Rattle.host.specs.declared.transaction.Failure.{Failure}
use Rattle.host.specs.declared.transaction.Failure.TheVariants as failures
use Rattle.flex.specs.declared.status.Status.{Status}
use Rattle.flex.specs.declared.status.Status.TheVariants as statuses
use Rattle.flex.specs.Statuses.{numbers_of}

-- Six bytes of a number below 2 ^ 32, most significant first.
abbrev pub six_bytes : ℕ → List ℕ
six_bytes n = 0 ∷ 0 ∷ n / 2 ^ 24 % 256 ∷ n / 2 ^ 16 % 256 ∷ n / 2 ^ 8 % 256 ∷ n % 256 ∷ []

-- With a status: QSTAT 1, group, code, four zeros, and six bytes of address.
abbrev pub with_status : Status → ℕ → List ℕ
with_status s address = 1 ∷ (numbers_of s).0 ∷ (numbers_of s).1 ∷ 0 ∷ 0 ∷ 0 ∷ 0 ∷ six_bytes address

-- Without one all bytes are 0. The address is that of the first block that could not be read, for 8/4; otherwise it is 0.
abbrev pub report_bytes : Option Failure → List ℕ
report_bytes None = replicate 13 0
report_bytes (Some failures.EndOfVolume) = with_status statuses.EndOfVolume 0
report_bytes (Some failures.UnitFault) = with_status statuses.UnitFault 0
report_bytes (Some (failures.Unrecoverable a)) = with_status statuses.UnrecoverableData a
