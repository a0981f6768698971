-- A line that begins with the name of a call is the line of no other call.
use Rattle.std.proofs.Common.{◌≡◌, ℕ, cond, List, [], ◌∷◌, drop, is_some, Some, None, Option, Result, vec_items, sym, refl, ◌∙◌, inl, inr}
use Rattle.std.specs.Result.{result_ok}
use Rattle.std.specs.Prelude.{slice_get, codes}
use Rattle.std.proofs.lemmas.Option.{none-some}
use Rattle.cuwajimo.specs.declared.call.Act.{Act}
use Rattle.cuwajimo.specs.declared.call.Act.TheVariants as acts
use Rattle.cuwajimo.specs.declared.call.Filling.{Filling}
use Rattle.cuwajimo.specs.declared.call.HostAct.{HostAct}
use Rattle.cuwajimo.specs.declared.call.HostAct.TheVariants as host_acts
use Rattle.cuwajimo.specs.Calls.{host_act_name, act_name}
use Rattle.cuwajimo.specs.CallLines.{IsFilling, AsksFor, IsBlocks, IsCompare, IsCommonLine, IsHostLine, IsCallLine, NamesHostAct, host_act_names}
use Rattle.cuwajimo.specs.Words.{all_bytes, IsOneOf}
use Rattle.cuwajimo.specs.declared.trouble.Trouble.{Trouble}
use Rattle.cuwajimo.specs.Readings.{ReadsNamedInMemory}
use Rattle.cuwajimo.specs.Troubles.{Blamed}
use Rattle.cuwajimo.proofs.Named.{apart, none_of, in_memory, alone_read}

-- The acts that lend a buffer, and those with nothing behind the host.
abbrev pub filling_names : List (List ℕ)
filling_names = codes "segment" ∷ codes "report" ∷ []

abbrev pub bare_names : List (List ℕ)
bare_names = codes "cancel" ∷ codes "clear" ∷ codes "notice" ∷ codes "fault" ∷ codes "params" ∷ []

module _ (words : List (List ℕ)) where
  abbrev First : List ℕ → Type 0
  First name = slice_get words 0 ≡ Some name

  -- The name of a host's act, and operands that are not its.
  pub not_command : First (codes "command") → all_bytes (drop 2 words) ≡ None → (act : HostAct) → AsksFor words act → ⊥
  not_command named none (host_acts.Command bytes) asks = none-some (vec_items bytes) (sym none ∙ asks.operands)
  not_command named none act asks = apart (slice_get words 0) (codes "command") (host_act_name act) refl named asks.name

  -- A buffer's size and bytes, that are none.
  pub not_filling :
      IsOneOf filling_names (slice_get words 0) → ((filling : Filling) → IsFilling words filling → ⊥) → (act : HostAct) → AsksFor words act → ⊥
  not_filling named none (host_acts.Segment filling) asks = none filling asks.operands
  not_filling named none (host_acts.Report filling) asks = none filling asks.operands
  not_filling named none act asks = none_of filling_names (host_act_name act) (slice_get words 0) (refl, (refl, tt)) asks.name named

  -- A word behind the host of an act that takes none.
  not_bare : (word : List ℕ) → IsOneOf bare_names (slice_get words 0) → slice_get words 2 ≡ Some word → (act : HostAct) → AsksFor words act → ⊥
  not_bare word named more (host_acts.Command bytes) asks = none_of bare_names (codes "command") (slice_get words 0) (refl, (refl, (refl, (refl, (refl, tt))))) asks.name named
  not_bare word named more (host_acts.Segment filling) asks = none_of bare_names (codes "segment") (slice_get words 0) (refl, (refl, (refl, (refl, (refl, tt))))) asks.name named
  not_bare word named more (host_acts.Report filling) asks = none_of bare_names (codes "report") (slice_get words 0) (refl, (refl, (refl, (refl, (refl, tt))))) asks.name named
  not_bare word named more act asks = none-some word (sym asks.operands ∙ more)

  -- Such an act is read.
  pub bare_read :
      (line : ℕ) (act : HostAct) (r : Result (Option HostAct) Trouble) → NamesHostAct words → IsOneOf bare_names (slice_get words 0)
      → (slice_get words 2 ≡ None → AsksFor words act) → result_ok r ≡ cond (is_some (slice_get words 2)) None (Some (Some act)) → Blamed line r
      → ReadsNamedInMemory line (NamesHostAct words) (AsksFor words) r
  bare_read line act r named bare said value blamed =
      in_memory line (NamesHostAct words) (AsksFor words) r
      (alone_read line (NamesHostAct words) (AsksFor words) (slice_get words 2) act r named said (λ word more. not_bare word bare more) value blamed)

  pub not_blocks : First (codes "blocks") → ((act : Act) → IsBlocks words act → ⊥) → (act : Act) → IsCommonLine words act → ⊥
  not_blocks named none (acts.Host host act) line = line.operands
  not_blocks named none (acts.Blocks first count) line = none (acts.Blocks first count) line.operands
  not_blocks named none act line = apart (slice_get words 0) (codes "blocks") (act_name act) refl named line.name

  pub not_compare : First (codes "compare") → ((act : Act) → IsCompare words act → ⊥) → (act : Act) → IsCommonLine words act → ⊥
  not_compare named none (acts.Host host act) line = line.operands
  not_compare named none (acts.Compare pile master) line = none (acts.Compare pile master) line.operands
  not_compare named none act line = apart (slice_get words 0) (codes "compare") (act_name act) refl named line.name

-- Each act's name is among the names.
pub host_named : (word : Option (List ℕ)) (act : HostAct) → word ≡ Some (host_act_name act) → IsOneOf host_act_names word
host_named word (host_acts.Command bytes) p = inl p
host_named word (host_acts.Segment filling) p = inr (inl p)
host_named word (host_acts.Report filling) p = inr (inr (inl p))
host_named word host_acts.Cancel p = inr (inr (inr (inl p)))
host_named word host_acts.Clear p = inr (inr (inr (inr (inl p))))
host_named word host_acts.Notice p = inr (inr (inr (inr (inr (inl p)))))
host_named word host_acts.Fault p = inr (inr (inr (inr (inr (inr (inl p))))))
host_named word host_acts.Params p = inr (inr (inr (inr (inr (inr (inr (inl p)))))))

-- A line is the line of no call: where a host's act is named, if it is not the line of one; where none is, if it is not the line of a
-- call that is for no host.
module _ (words : List (List ℕ)) where
  pub no_host_line : NamesHostAct words → ((host : ℕ) (act : HostAct) → IsHostLine words host act → ⊥) → (act : Act) → IsCallLine words act → ⊥
  no_host_line named none (acts.Host host act) line = none host act line
  no_host_line named none act line =
      none_of host_act_names (act_name act) (slice_get words 0) (refl, (refl, (refl, (refl, (refl, (refl, (refl, (refl, tt)))))))) line.name named

  pub no_common_line : (NamesHostAct words → ⊥) → ((act : Act) → IsCommonLine words act → ⊥) → (act : Act) → IsCallLine words act → ⊥
  no_common_line unnamed none (acts.Host host act) line = unnamed (host_named (slice_get words 0) act line.asked.name)
  no_common_line unnamed none act line = none act line
