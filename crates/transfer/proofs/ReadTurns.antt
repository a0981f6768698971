-- One turn of the loops that move blocks, over plain lists.
use Rattle.std.proofs.Common.{◌≡◌, ℕ, ◌+◌, ◌-◌, ◌*◌, List, [], ◌∷◌, ◌++◌, length, drop, Option, sym, refl, ap, ◌∙◌, arith}
use borrow.Rule.Slice.PartMut.{put_mid}
use Rattle.std.specs.List.{slice_get}
use Rattle.std.proofs.lemmas.List.{append-nil, length-append}
use Rattle.store.specs.Blocks.{Block, read_at, buffer_at}
use Rattle.host.specs.Progress.{first_fault}
use Rattle.describe.proofs.Filling.{filled_more}
use Rattle.transfer.proofs.Spans.{length_span}
use Rattle.transfer.proofs.Cutting.{span_cut, bytes_cut, first_none, same_cut}
use Rattle.transfer.proofs.Faults.{read_faults}
use Rattle.transfer.specs.Segments.{span, zeros, met_by, converted, read_fault, read_bytes}

bytes_push : (os : List (Option Block)) (o : Option Block) → read_bytes (os ++ o ∷ []) ≡ read_bytes os ++ buffer_at zeros o
bytes_push os o = bytes_cut os (o ∷ []) ∙ ap (λ l. read_bytes os ++ l) (append-nil (buffer_at zeros o))

-- a turn of a read: the bytes of one block more stand before what the buffer held
module _ (bs : List Block) (b k : ℕ) (ys : List ℕ) (here : ys ≡ buffer_at zeros (slice_get bs (b + k))) (whole : length ys ≡ 256) (long : length (read_bytes (span bs b k)) ≡ 256 * k) where
  all : read_bytes (span bs b (k + 1)) ≡ read_bytes (span bs b k) ++ ys
  all = ap read_bytes (span_cut bs b k 1) ∙ bytes_push (span bs b k) (slice_get bs (b + k)) ∙ ap (λ z. read_bytes (span bs b k) ++ z) (sym here)

  pub long_more : length (read_bytes (span bs b (k + 1))) ≡ 256 * (k + 1)
  long_more = ap length all ∙ length-append (read_bytes (span bs b k)) ys ∙ omega arith

  pub read_more : (buffer first : List ℕ) → buffer ≡ read_bytes (span bs b k) ++ drop (256 * k) first → put_mid (256 * k) (256 * k + 256 - 256 * k) buffer ys ≡ read_bytes (span bs b (k + 1)) ++ drop (256 * (k + 1)) first
  read_more buffer first e =
      let n : 256 * k + 256 ≡ 256 * (k + 1) = omega arith in
      filled_more (read_bytes (span bs b k)) buffer first ys (256 * k) (256 * k + 256) 256 e long whole refl ∙ rw (all, n)

pub fault_more : (u : ℕ) (bs : List Block) (b a k : ℕ) → read_fault u b a (span bs b (k + 1)) ≡ first_fault (read_fault u b a (span bs b k)) (met_by (converted (read_at (b + k) (slice_get bs (b + k)))) u (a + k))
fault_more u bs b a k =
    ap (read_fault u b a) (span_cut bs b k 1)
    ∙ same_cut read_at read_fault read_faults u b a (span bs b k) (slice_get bs (b + k) ∷ []) k (sym (length_span bs b k))
    ∙ ap (first_fault (read_fault u b a (span bs b k))) (first_none (met_by (converted (read_at (b + k) (slice_get bs (b + k)))) u (a + k)))
