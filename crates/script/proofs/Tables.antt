-- Tables with what a name stands for.
use Rattle.std.proofs.Common.{◌≡◌, ℕ, List, [], ◌∷◌, Bool, true, false, cond, Option, Some, None, Vec, Bor, nat_eq, refl, sym, ap, ◌∙◌}
use Rattle.std.specs.Option.{option_map, option_copied}
use Rattle.std.specs.Map.{lookup}
use Rattle.std.specs.Cmp.Lexicographic.{pointwise, bytes_decides}
use Rattle.indexmap.specs.IndexMap.{insert_entry}
use Rattle.values.specs.Values.{Name}
use Rattle.values.specs.Names.{same_name}

pub copied : {X : Type 0} (r : Option (Bor X)) → option_map (λ w. w.now) r ≡ option_copied r
copied None = refl
copied (Some w) = refl

abbrev Stored : Type 0 → Type 0 → Type 0
Stored V A = List (Vec ℕ A × V)

module _ {V A : Type 0} where
  abbrev pub finds : Stored V A → Name → Option V
  finds es n = lookup (λ k. same_name n k.items) es

  pub inserted : (es : Stored V A) (key : Vec ℕ A) (w : V) (n : Name) → finds (insert_entry (λ a b. pointwise nat_eq a.items b.items) es key w) n ≡ cond (same_name n key.items) (Some w) (finds es n)
  inserted [] key w n = refl
  inserted (e ∷ es) key w n = by (pointwise nat_eq key.items e.0.items) (same_name n key.items) (same_name n e.0.items) refl refl refl (insert_entry (λ a b. pointwise nat_eq a.items b.items) es key w) (inserted es key w n)
    where
      by : (b c d : Bool) → pointwise nat_eq key.items e.0.items ≡ b → same_name n key.items ≡ c → same_name n e.0.items ≡ d → (fs : Stored V A) → finds fs n ≡ cond (same_name n key.items) (Some w) (finds es n)
          → finds (cond b ((e.0, w) ∷ es) (e ∷ fs)) n ≡ cond (same_name n key.items) (Some w) (cond (same_name n e.0.items) (Some e.1) (finds es n))
      by true true true p q r fs ih = rw (q, r) refl
      by true true false p q r fs ih = absurd (let k : true ≡ false = sym q ∙ ap (same_name n) ((bytes_decides key.items e.0.items).0 p) ∙ r in cc)
      by true false true p q r fs ih = absurd (let k : true ≡ false = sym r ∙ ap (same_name n) (sym ((bytes_decides key.items e.0.items).0 p)) ∙ q in cc)
      by true false false p q r fs ih = rw (q, r) refl
      by false true true p q r fs ih = absurd (let k : true ≡ false = sym ((bytes_decides key.items e.0.items).1 (sym ((bytes_decides n key.items).0 q) ∙ (bytes_decides n e.0.items).0 r)) ∙ p in cc)
      by false true false p q r fs ih = rw (r, ih) refl
      by false false true p q r fs ih = rw (q, r) refl
      by false false false p q r fs ih = rw (r, ih) refl
