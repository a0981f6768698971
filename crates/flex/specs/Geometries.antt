-- The places of a unit: addresses, which count its blocks from 0, and vectors of cylinder, head and sector.
use Rattle.std.specs.Prelude.{◌≡◌, ℕ, ◌+◌, ◌*◌, ◌/◌, ◌%◌, ◌<◌, ◌≤◌, cond, ◌&&◌, Some, None, Option, nat_lt}
use Rattle.flex.specs.declared.vector.Vector.{Vector}
use Rattle.flex.specs.declared.geometry.Geometry.{Geometry}

-- The number of blocks: cylinders times heads times sectors.
abbrev pub size_of : Geometry → ℕ
size_of g = g.cylinders * g.heads * g.sectors

-- The vector of an address: sectors count fastest, then heads, then cylinders; none where the address is not below the size.
abbrev pub vector_at : Geometry → ℕ → Option Vector
vector_at g address =
    cond (nat_lt address (size_of g))
    (Some (record { cylinder = address / g.sectors / g.heads; head = address / g.sectors % g.heads; sector = address % g.sectors }))
    None

-- Cylinder c, head d and sector s are at address (c * D + d) * S + s, where a cylinder has D heads and a track S sectors.
abbrev pub place_of : Geometry → Vector → ℕ
place_of g v = (v.cylinder * g.heads + v.head) * g.sectors + v.sector

-- The address of a vector; none where the cylinder, the head or the sector is not below its count.
abbrev pub address_at : Geometry → Vector → Option ℕ
address_at g v =
    cond (nat_lt v.cylinder g.cylinders && (nat_lt v.head g.heads && nat_lt v.sector g.sectors))
    (Some (place_of g v))
    None

-- The law of the two. A vector is within a geometry when each of its parts is below its count:
pub record Within (g : Geometry) (v : Vector) : Type 0 where
  pub cylinder : v.cylinder < g.cylinders
  pub head : v.head < g.heads
  pub sector : v.sector < g.sectors

-- A vector and an address name one place of a unit when the vector is within, the address below the size, and the address is the vector's place:
pub record Names (g : Geometry) (v : Vector) (address : ℕ) : Type 0 where
  pub within : Within g v
  pub below : address < size_of g
  pub place : address ≡ place_of g v

-- And then each address below the size has just one vector, each vector within just one address, the two definitions above turn them into one
-- another, and outside the unit they give none.
pub record Numbered (g : Geometry) : Type 0 where
  pub one_vector : (address : ℕ) → address < size_of g → (v : Vector) × Names g v address × ((w : Vector) → Names g w address → w ≡ v)
  pub one_address : (v : Vector) → Within g v → (address : ℕ) × Names g v address × ((other : ℕ) → Names g v other → other ≡ address)
  pub to_vector : (v : Vector) (address : ℕ) → Names g v address → vector_at g address ≡ Some v
  pub to_address : (v : Vector) (address : ℕ) → Names g v address → address_at g v ≡ Some address
  pub no_vector : (address : ℕ) → size_of g ≤ address → vector_at g address ≡ None
  pub no_address : (v : Vector) → (Within g v → ⊥) → address_at g v ≡ None
