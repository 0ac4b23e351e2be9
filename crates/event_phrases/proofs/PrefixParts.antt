-- The parts of a prefix, step by step.
use Rattle.std.proofs.Common.{◌≡◌, List, length, Bool, true, false, cond, nat_eq, Option, Some, None, sym, ap, subst, ◌∙◌, arith}
use Rattle.alphabet.specs.Channels.{Values}
use Rattle.tokens.specs.declared.read_error.ReadError.{ReadError}
use Rattle.values.specs.Values.{◌>>=◌, Name}
use Rattle.values.specs.View.{Fails}
use Rattle.event_phrases.specs.Events.{channel_fields}
use Rattle.event_phrases.specs.Forms.{FieldPhrase, EventPhrase, event_parts}
use Rattle.event_phrases.specs.Prefixes.{at_no_fault, prefix_parts}
use Rattle.event_phrases.specs.Scopes.{Scope}
use Rattle.event_phrases.proofs.Options.{fails_at}

abbrev FoundParts : Type 0
FoundParts = Option (Name × List FieldPhrase × List Values)

abbrev parts_with : Name → List FieldPhrase → List Values → FoundParts
parts_with c fs sets = Some (c, fs, sets)

-- what there is where the channel's fields have these values
abbrev parts_in : Scope → Name → List FieldPhrase → List Values → FoundParts
parts_in s c fs sets = cond (nat_eq (length fs) (length sets)) (at_no_fault fs sets s >>= λ u. parts_with c fs sets) None

abbrev parts_by : Scope → Name × List FieldPhrase → FoundParts
parts_by s p = channel_fields s.channels s.known p.0 >>= parts_in s p.0 p.1

module _ (s : Scope) (e : EventPhrase) where
  pub no_event : None ≡ event_parts e → prefix_parts s e ≡ None
  unfolding prefix_parts
  no_event h = ap (λ o. o >>= parts_by s) (sym h)

  module _ (c : Name) (fs : List FieldPhrase) (h : Some (c, fs) ≡ event_parts e) where
    from : prefix_parts s e ≡ (channel_fields s.channels s.known c >>= parts_in s c fs)
    unfolding prefix_parts
    from = ap (λ o. o >>= parts_by s) (sym h)

    pub no_channel : None ≡ channel_fields s.channels s.known c → prefix_parts s e ≡ None
    no_channel n = from ∙ ap (λ o. o >>= parts_in s c fs) (sym n)

    module _ (sets : List Values) (f : Some sets ≡ channel_fields s.channels s.known c) where
      within_sets : (b : Bool) → nat_eq (length fs) (length sets) ≡ b → prefix_parts s e ≡ cond b (at_no_fault fs sets s >>= λ u. parts_with c fs sets) None
      within_sets b n = from ∙ ap (λ o. o >>= parts_in s c fs) (sym f) ∙ ap (λ b. cond b (at_no_fault fs sets s >>= λ u. parts_with c fs sets) None) n

      pub other_count : (length fs ≡ length sets → ⊥) → prefix_parts s e ≡ None
      other_count n = within_sets false (grind (arith, n))

      module _ (n : length fs ≡ length sets) where
        all_there : prefix_parts s e ≡ (at_no_fault fs sets s >>= λ u. parts_with c fs sets)
        all_there = within_sets true (grind (arith, n))

        pub field_fails : (k : ReadError) → Fails k (at_no_fault fs sets s) → Fails k (prefix_parts s e)
        field_fails k g = subst (λ o. Fails k o) (sym all_there) (fails_at k (at_no_fault fs sets s) (λ u. parts_with c fs sets) g)

        pub parts_found : at_no_fault fs sets s ≡ Some tt → prefix_parts s e ≡ Some (c, fs, sets)
        parts_found g = all_there ∙ ap (λ o. o >>= λ u. parts_with c fs sets) g
