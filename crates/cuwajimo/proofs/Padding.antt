-- Numbers in hexadecimal digits, as they are written with a least number of them.
use Rattle.std.proofs.Common.{◌≡◌, ℕ, ◌+◌, ◌-◌, ◌^◌, ◌<◌, false, List, [], ◌++◌, length, get_or, take, flat_map, replicate, Some, Option, ap, sym, ◌∙◌, append-nil}
use Rattle.std.proofs.Math.Nat.{sub-zero}
use Rattle.std.proofs.lemmas.List.{flat_map_more, take_more}
use Rattle.std.specs.Option.{option_map}
use Rattle.std.specs.Fmt.{digits, digits_output, format_spec, padded_integral, char_count, radix_prefix, shown_prefix, styled_digits_output}
use Rattle.cuwajimo.specs.Sums.{hex_digits}

filled : (w : ℕ) (ds : List ℕ) → padded_integral (format_spec 32 0 4 w (2 ^ 64 - 1)) false [] ds ≡ replicate (w - length ds) 48 ++ ds
unfolding padded_integral char_count
filled w ds = rw (sub-zero (w - length ds), sub-zero (w - length ds), append-nil ds)

-- What is written of each of some things, and of one more.
pub mapped_more :
    {X : Type 0} (f : X → List ℕ) (xs : List X) (i : ℕ) (d : X) → i < length xs → flat_map f (take i xs) ++ f (get_or xs i d) ≡ flat_map f (take (i + 1) xs)
mapped_more f xs i d within = flat_map_more f [] (take i xs) (get_or xs i d) ∙ ap (flat_map f) (sym (take_more xs i d within))

pub written_hex :
    (w n : ℕ) (d : _) (s : _) → digits_output d ≡ Some (digits 16 false n) → s ≡ format_spec 32 0 4 w (2 ^ 64 - 1)
    → styled_digits_output d s ≡ Some (hex_digits w n)
written_hex w n d s is so =
    ap (λ (x : _). option_map (padded_integral x false (shown_prefix x (radix_prefix d.base))) (digits_output d)) so
    ∙ ap (λ (o : Option (List ℕ)). option_map (padded_integral (format_spec 32 0 4 w (2 ^ 64 - 1)) false []) o) is
    ∙ ap Some (filled w (digits 16 false n))
