-- Texts by what they were said of.
use Rattle.std.proofs.Common.{◌≡◌, ◌⊎◌, ℕ, List, [], ◌∷◌, Bool, true, false, cond, Option, Some, None, Vec, Bor, nat_eq, inl, inr, ⊎_elim, refl, sym, ap, ◌∙◌}
use Rattle.std.specs.Option.{option_map, option_copied, unwrap_or}
use Rattle.std.specs.Map.{lookup}
use Rattle.std.specs.Cmp.Lexicographic.{pointwise, bytes_decides}
use Rattle.indexmap.specs.IndexMap.{insert_entry}
use Rattle.alphabet.specs.EventSets.{Set}

module _ {A : Type 0} where
  abbrev kept : List (Vec ℕ A × Vec ℕ A) → List Set → Option (List ℕ)
  kept es sets = option_map (λ text. text.items) (lookup (λ key. pointwise nat_eq sets key.items) es)

  -- a look-up is one of the entries as they are stored
  pub looked_up : (found : Option (Bor (Vec ℕ A))) → option_map (λ text. text.now.items) found ≡ option_map (λ text. text.items) (option_copied found)
  looked_up None = refl
  looked_up (Some text) = refl

  -- what is kept after a text was put was kept before, or is that text
  pub put : (es : List (Vec ℕ A × Vec ℕ A)) (key text : Vec ℕ A) (sets : List Set) (said : List ℕ) → kept (insert_entry (λ a b. pointwise nat_eq a.items b.items) es key text) sets ≡ Some said → (kept es sets ≡ Some said) ⊎ ((sets ≡ key.items) × (said ≡ text.items))
  put [] key text sets said h = first (pointwise nat_eq sets key.items) refl h
    where
      first : (b : Bool) → pointwise nat_eq sets key.items ≡ b → option_map (λ text. text.items) (cond b (Some text) None) ≡ Some said → (kept [] sets ≡ Some said) ⊎ ((sets ≡ key.items) × (said ≡ text.items))
      first true p h = inr ((bytes_decides sets key.items).0 p, sym (ap (λ o. unwrap_or o []) h))
      first false p h = absurd cc
  put (e ∷ es) key text sets said h = by (pointwise nat_eq key.items e.0.items) (pointwise nat_eq sets e.0.items) refl refl (put es key text sets said) h
    where
      keep : List (Vec ℕ A × Vec ℕ A) → Vec ℕ A → Bool → Option (List ℕ)
      keep others first c = option_map (λ text. text.items) (cond c (Some first) (lookup (λ key. pointwise nat_eq sets key.items) others))

      later : List (Vec ℕ A × Vec ℕ A)
      later = insert_entry (λ a b. pointwise nat_eq a.items b.items) es key text

      by : (b c : Bool) → pointwise nat_eq key.items e.0.items ≡ b → pointwise nat_eq sets e.0.items ≡ c
          → (kept later sets ≡ Some said → (kept es sets ≡ Some said) ⊎ ((sets ≡ key.items) × (said ≡ text.items)))
          → kept (cond b ((e.0, text) ∷ es) (e ∷ later)) sets ≡ Some said
          → (keep es e.1 c ≡ Some said) ⊎ ((sets ≡ key.items) × (said ≡ text.items))
      by true true p q ih h = inr ((bytes_decides sets e.0.items).0 q ∙ sym ((bytes_decides key.items e.0.items).0 p), sym (ap (λ o. unwrap_or o []) (sym (ap (keep es text) q) ∙ h)))
      by true false p q ih h = inl (sym (ap (keep es text) q) ∙ h)
      by false true p q ih h = inl (sym (ap (keep later e.1) q) ∙ h)
      by false false p q ih h = ih (sym (ap (keep later e.1) q) ∙ h)

  -- so is what is kept where a text was put after some were forgotten
  pub put_after : (old es new : List (Vec ℕ A × Vec ℕ A)) (key text : Vec ℕ A) (sets : List Set) (said : List ℕ) → new ≡ insert_entry (λ a b. pointwise nat_eq a.items b.items) es key text
      → ((others : List Set) (t : List ℕ) → kept es others ≡ Some t → kept old others ≡ Some t) → key.items ≡ sets → text.items ≡ said
      → (others : List Set) (t : List ℕ) → kept new others ≡ Some t → (kept old others ≡ Some t) ⊎ ((others ≡ sets) × (t ≡ said))
  put_after old es new key text sets said are less of is others t h =
      ⊎_elim (λ k. inl (less others t k)) (λ k. inr (k.0 ∙ of, k.1 ∙ is)) (put es key text others t (sym (ap (λ es. kept es others) are) ∙ h))
