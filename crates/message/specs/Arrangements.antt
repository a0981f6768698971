-- The messages that are accepted, told by their parts and not by the decoder: which bytes spell which parts, how parts may be arranged, what
-- each has to keep to, and what a message then asks for.
use Rattle.std.specs.Prelude.{◌≡◌, ℕ, ◌+◌, ◌%◌, ◌<◌, ◌≤◌, cond, ◌⊎◌, List, [], ◌∷◌, ◌++◌, length, IfSome, Some, None, Ok, Err, Option, Result, ◌==◌}
use Rattle.std.specs.Option.{unwrap_or}
use Rattle.message.specs.declared.command.Command.{Command}
use Rattle.flex.specs.declared.geometry.Geometry.{Geometry}
use Rattle.message.specs.declared.message.Message.{Message}
use Rattle.message.specs.declared.parameters.Parameters.{Parameters}
use Rattle.flex.specs.declared.status.Status.{Status}
use Rattle.flex.specs.declared.status.Status.TheVariants.{IllegalOpcode, ModuleAddressing, AddressBounds, ParameterBounds, MessageSequence, MessageLength}
use Rattle.flex.specs.declared.unit_map.UnitMap.{UnitMap}
use Rattle.flex.specs.declared.vector.Vector.{Vector}
use Rattle.flex.specs.Geometries.{size_of, place_of, Within}
use Rattle.flex.specs.Maps.{geometry_at}
use Rattle.message.specs.Commands.{code_of}
use Rattle.message.specs.Operands.{number, vector_of}

-- Where a message aims: Set Address has two forms.
pub data Target : Type 0 where
  single : ℕ → Target
  by_vector : Vector → Target

-- A code with what follows it.
pub data Part : Type 0 where
  no_op : Part
  set_unit : ℕ → Part
  set_address : Target → Part
  set_length : ℕ → Part
  real : Command → Part

-- The code that a part begins with.
abbrev pub Opens : Part → ℕ → Type 0
Opens no_op code = code ≡ 0x34
Opens (set_unit u) code = (u < 16) × (code ≡ 0x20 + u)
Opens (set_address (single address)) code = code ≡ 0x10
Opens (set_address (by_vector v)) code = code ≡ 0x11
Opens (set_length n) code = code ≡ 0x18
Opens (real k) code = code ≡ code_of k

-- How many bytes follow the code: six of single address; three of cylinder, one of head and two of sector; four of length.
abbrev pub operand_size : Part → ℕ
operand_size no_op = 0
operand_size (set_unit u) = 0
operand_size (set_address t) = 6
operand_size (set_length n) = 4
operand_size (real k) = 0

-- What those bytes spell.
abbrev pub Tells : Part → List ℕ → Type 0
Tells no_op bytes = Unit {0}
Tells (set_unit u) bytes = Unit {0}
Tells (set_address (single address)) bytes = address ≡ number bytes
Tells (set_address (by_vector v)) bytes = v ≡ vector_of bytes
Tells (set_length n) bytes = n ≡ number bytes
Tells (real k) bytes = Unit {0}

-- A part carries these bytes: they are as many as follow its code, and spell what it says.
pub record Carries (q : Part) (bytes : List ℕ) : Type 0 where
  pub size : length bytes ≡ operand_size q
  pub value : Tells q bytes

-- The bytes of a message spell its parts, one after another.
abbrev pub Spells : List Part → List ℕ → Type 0
Spells [] bytes = bytes ≡ []
Spells (q ∷ qs) bytes =
    (code : ℕ) × (operand : List ℕ) × (rest : List ℕ) × (bytes ≡ code ∷ (operand ++ rest)) × Opens q code × Carries q operand × Spells qs rest

-- What an arrangement holds: at most one unit, one target, one length and one real command.
pub record Outline : Type 0 where
  pub unit : Option ℕ
  pub target : Option Target
  pub amount : Option ℕ
  pub command : Option Command

-- What an outline holds of one kind, as parts: one part, or none where it holds nothing of it.
abbrev pub parts_of : {A : Type 0} → (A → Part) → Option A → List Part
parts_of f None = []
parts_of f (Some x) = f x ∷ []

-- No Op may stand anywhere: the parts without it.
abbrev pub others : List Part → List Part
others [] = []
others (no_op ∷ qs) = others qs
others (set_unit u ∷ qs) = set_unit u ∷ others qs
others (set_address t ∷ qs) = set_address t ∷ others qs
others (set_length n ∷ qs) = set_length n ∷ others qs
others (real k ∷ qs) = real k ∷ others qs

-- No Op apart, Set Unit comes first, then Set Address and Set Length in either order, and then the real command.
abbrev pub Arranged : List Part → Outline → Type 0
Arranged qs o =
    (others qs ≡ parts_of set_unit o.unit ++ (parts_of set_address o.target ++ (parts_of set_length o.amount ++ parts_of real o.command)))
    ⊎ (others qs ≡ parts_of set_unit o.unit ++ (parts_of set_length o.amount ++ (parts_of set_address o.target ++ parts_of real o.command)))

-- The unit in effect: the one that the message sets, else the host's own.
abbrev pub in_effect : Parameters → Outline → ℕ
in_effect own o = unwrap_or o.unit own.unit

-- A unit may be set if the map has it, or if it is the controller.
abbrev pub Present : UnitMap → ℕ → Type 0
Present m n = (n < m.count) ⊎ (n ≡ 15)

-- A single address is to be below the size of a unit, and a vector within its cylinders, heads and sectors.
abbrev pub Inside : Geometry → Target → Type 0
Inside g (single address) = address < size_of g
Inside g (by_vector v) = Within g v

-- A target can be reached when unit n is there and the target is inside it; in the controller none can be.
abbrev pub Reachable : UnitMap → ℕ → Target → Type 0
Reachable m n t = (g : Geometry) × (geometry_at m n ≡ Some g) × Inside g t

-- A length is a multiple of 256, or the one that stands for the whole unit.
abbrev pub Measured : ℕ → Type 0
Measured n = (n % 256 ≡ 0) ⊎ (n ≡ 0xffff_ffff)

-- Each part within its bounds; an address is held against the unit in effect.
pub record Bounded (m : UnitMap) (own : Parameters) (o : Outline) : Type 0 where
  pub unit : IfSome o.unit (λ u. Present m u)
  pub target : IfSome o.target (λ t. Reachable m (in_effect own o) t)
  pub amount : IfSome o.amount (λ n. Measured n)

-- The address of a target: a single one is itself, and a vector's is its place in the geometry, or 0 where there is no geometry.
abbrev pub aimed_in : Target → Option Geometry → ℕ
aimed_in (single address) g = address
aimed_in (by_vector v) None = 0
aimed_in (by_vector v) (Some g) = place_of g v

-- The address of a target in the unit of a number.
abbrev pub aimed : UnitMap → ℕ → Target → ℕ
aimed m n t = aimed_in t (geometry_at m n)

-- The target address: the one that the message sets, else the host's own, but 0 where the message changes the unit.
abbrev pub address_asked : UnitMap → Parameters → ℕ → Option Target → ℕ
address_asked m own n (Some t) = aimed m n t
address_asked m own n None = cond (n == own.unit) own.address 0

-- What a message so arranged asks for: what it sets, and the host's own for the rest.
abbrev pub asked : UnitMap → Parameters → Outline → Message
asked m own o =
    record {
      parameters =
          record {
            unit = in_effect own o;
            address = address_asked m own (in_effect own o) o.target;
            length = unwrap_or o.amount own.length;
          };
      command = o.command;
    }

-- The bytes spell parts in such an arrangement, each within its bounds.
pub record Good (m : UnitMap) (own : Parameters) (bytes : List ℕ) (o : Outline) : Type 0 where
  pub parts : List Part
  pub spelled : Spells parts bytes
  pub arranged : Arranged parts o
  pub bounded : Bounded m own o

-- THE LAW OF ACCEPTANCE: a message is accepted just when it has 1 to 1,024 bytes and is good, and what it then asks for is this.
abbrev pub Accepted : UnitMap → Parameters → List ℕ → Message → Type 0
Accepted m own bytes message = (1 ≤ length bytes) × (length bytes ≤ 1024) × ((o : Outline) × Good m own bytes o × (message ≡ asked m own o))

-- Which parts are allowed after codes that hold so much.
abbrev pub Allowed : Outline → Part → Type 0
Allowed o no_op = Unit {0}
Allowed o (set_unit u) = (o.unit ≡ None) × (o.target ≡ None) × (o.amount ≡ None) × (o.command ≡ None)
Allowed o (set_address t) = (o.target ≡ None) × (o.command ≡ None)
Allowed o (set_length n) = (o.amount ≡ None) × (o.command ≡ None)
Allowed o (real k) = o.command ≡ None

-- Which status a code is refused with, where it comes after codes that hold so much, and before the rest of the bytes. Each check comes after
-- those above it.
pub data Fault (m : UnitMap) (own : Parameters) (o : Outline) (code : ℕ) (rest : List ℕ) : Status → Type 0 where
  -- no part begins with the code
  unknown : ((q : Part) → Opens q code → ⊥) → Fault m own o code rest IllegalOpcode
  -- it is not allowed here
  misplaced : (q : Part) → Opens q code → (Allowed o q → ⊥) → Fault m own o code rest MessageSequence
  -- not all of its bytes are there
  short : (q : Part) → Opens q code → Allowed o q → length rest < operand_size q → Fault m own o code rest MessageLength
  -- the unit is neither in the map nor the controller
  no_unit : (u : ℕ) → Opens (set_unit u) code → Allowed o (set_unit u) → (Present m u → ⊥) → Fault m own o code rest ModuleAddressing
  -- the address is not below the size of the unit in effect, or the vector not within it
  out_of_unit :
      (t : Target) (operand after : List ℕ) → Opens (set_address t) code → Allowed o (set_address t) → Carries (set_address t) operand
      → rest ≡ operand ++ after → (Reachable m (in_effect own o) t → ⊥) → Fault m own o code rest AddressBounds
  -- the length breaks its rule
  uneven :
      (n : ℕ) (operand after : List ℕ) → Opens (set_length n) code → Allowed o (set_length n) → Carries (set_length n) operand
      → rest ≡ operand ++ after → (Measured n → ⊥) → Fault m own o code rest ParameterBounds

-- The bytes are codes that are good by themselves, then one code that is at fault with this status, and then the rest.
pub record AtFault (m : UnitMap) (own : Parameters) (bytes : List ℕ) (s : Status) : Type 0 where
  pub before : List ℕ
  pub code : ℕ
  pub rest : List ℕ
  pub o : Outline
  pub whole : bytes ≡ before ++ code ∷ rest
  pub good : Good m own before o
  pub fault : Fault m own o code rest s

-- THE LAW OF REFUSAL: the status is that of the length, or else that of the first code at fault, where the codes before it are good.
abbrev pub Refused : UnitMap → Parameters → List ℕ → Status → Type 0
Refused m own bytes s =
    (((1 ≤ length bytes) × (length bytes ≤ 1024) → ⊥) × (s ≡ MessageLength))
    ⊎ ((1 ≤ length bytes) × (length bytes ≤ 1024) × AtFault m own bytes s)

-- The law of acceptance of an answer: it is a message just when the bytes are accepted and ask for that message.
abbrev pub Accepts : UnitMap → Parameters → List ℕ → Result Message Status → Type 0
Accepts m own bytes r = (message : Message) → (r ≡ Ok message → Accepted m own bytes message) × (Accepted m own bytes message → r ≡ Ok message)

-- The law of refusal of an answer: where it is a status, the bytes are refused with that status.
abbrev pub Refuses : UnitMap → Parameters → List ℕ → Result Message Status → Type 0
Refuses m own bytes r = (s : Status) → r ≡ Err s → Refused m own bytes s
