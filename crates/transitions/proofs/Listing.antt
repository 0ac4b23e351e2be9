-- Lists of numbers by key, which are parts of one list.
use Rattle.std.proofs.Common.{◌≡◌, ◌⊎◌, inl, inr, ℕ, zero, suc, ◌+◌, ◌-◌, ◌<◌, ◌≤◌, Bool, true, false, cond, nat_eq, Option, None, Some, Result, Ok, Err, OnOk, OnErr, List, [], ◌∷◌, ◌++◌, length, length-append, get_or, set, take, drop, refl, sym, ap, subst, ◌∙◌, arith}
use Rattle.std.specs.Prelude.{option_map, slice_range}
use Rattle.std.specs.Map.{lookup}
use Rattle.std.proofs.Math.Seq.{drop-append_seam, take-length}
use Rattle.std.proofs.lemmas.Bool.{eqb-true, eqb-false}
use Rattle.std.proofs.lemmas.Option.{same_Some}
use Rattle.std.proofs.lemmas.List.{drop-append-le, take-append-le, length-drop, get_or-set_same, get_or-set_other}
use Rattle.std.proofs.lemmas.Map.Made.{lookup-map_values}
use Rattle.indexmap.specs.IndexMap.{IndexMap, Updates, IsUnchanged}
use Rattle.transitions.specs.Lists.{listed, AreWithin, MayHave, listed_by_number, AreAllWithin, KeepsPlaces, MayHaveAt}

-- the list of a key
pub listed-at : (ns : List ℕ) (es : List (ℕ × (ℕ × ℕ))) (k : ℕ) → lookup (nat_eq k) (listed ns es) ≡ option_map (λ p. slice_range ns p.0 p.1) (lookup (nat_eq k) es)
listed-at ns es k = lookup-map_values (λ (p : ℕ × ℕ). slice_range ns p.0 p.1) (nat_eq k) es

-- what stands between two places stays where there are more numbers
part-stays : (ns more : List ℕ) (i j : ℕ) → i ≤ j → j ≤ length ns → slice_range (ns ++ more) i j ≡ slice_range ns i j
part-stays ns more i j o h =
    ap (take (j - i)) (drop-append-le i ns more (omega arith))
    ∙ take-append-le (j - i) (drop i ns) more (omega (arith, length-drop i ns))

same-part : (ns more : List ℕ) (o : Option (ℕ × ℕ)) → ((p : ℕ × ℕ) → o ≡ Some p → (p.0 ≤ p.1) × (p.1 ≤ length ns)) → option_map (λ (p : ℕ × ℕ). slice_range (ns ++ more) p.0 p.1) o ≡ option_map (λ (p : ℕ × ℕ). slice_range ns p.0 p.1) o
same-part ns more None h = refl
same-part ns more (Some p) h = let w = h p refl in ap Some (part-stays ns more p.0 p.1 w.0 w.1)

-- the last numbers
part-last : (ns more : List ℕ) (j : ℕ) → j ≡ length ns + length more → slice_range (ns ++ more) (length ns) j ≡ more
part-last ns more j e =
    let count : j - length ns ≡ length more = omega arith in
    ap (λ (n : ℕ). take n (drop (length ns) (ns ++ more))) count ∙ ap (take (length more)) (drop-append_seam ns more) ∙ take-length more

module _ (ns more : List ℕ) (es : List (ℕ × (ℕ × ℕ))) (all : AreWithin (length ns) es) where
  lists-stay : (x : ℕ) → lookup (nat_eq x) (listed (ns ++ more) es) ≡ lookup (nat_eq x) (listed ns es)
  lists-stay x = listed-at (ns ++ more) es x ∙ same-part ns more (lookup (nat_eq x) es) (all x) ∙ sym (listed-at ns es x)

  pub within-stays : AreWithin (length (ns ++ more)) es
  within-stays k p e = let w = all k p e in (w.0, omega (arith, w.1, length-append ns more))

  -- nothing new has a list
  none-more : (k : ℕ) (list : List ℕ) → MayHave (listed ns es) (listed (ns ++ more) es) k list
  none-more k list x = inl (lists-stay x)

  -- the key has the new numbers
  module _ (k to : ℕ) (fs : List (ℕ × (ℕ × ℕ))) (end : to ≡ length ns + length more) (u : (x : ℕ) → lookup (nat_eq x) fs ≡ cond (nat_eq k x) (Some (length ns, to)) (lookup (nat_eq x) es)) where
    at-key : (x : ℕ) → nat_eq k x ≡ true → lookup (nat_eq x) fs ≡ Some (length ns, to)
    at-key x q = u x ∙ ap (λ (b : Bool). cond b (Some (length ns, to)) (lookup (nat_eq x) es)) q

    at-others : (x : ℕ) → nat_eq k x ≡ false → lookup (nat_eq x) fs ≡ lookup (nat_eq x) es
    at-others x q = u x ∙ ap (λ (b : Bool). cond b (Some (length ns, to)) (lookup (nat_eq x) es)) q

    one-more : MayHave (listed ns es) (listed (ns ++ more) fs) k more
    one-more x = by (nat_eq k x) refl
      where
        by : (b : Bool) → nat_eq k x ≡ b → (lookup (nat_eq x) (listed (ns ++ more) fs) ≡ lookup (nat_eq x) (listed ns es)) ⊎ ((x ≡ k) × (lookup (nat_eq x) (listed (ns ++ more) fs) ≡ Some more))
        by true q =
            inr (
              sym (eqb-true k x q),
              listed-at (ns ++ more) fs x
                  ∙ ap (option_map (λ (p : ℕ × ℕ). slice_range (ns ++ more) p.0 p.1)) (at-key x q)
                  ∙ ap Some (part-last ns more to end),
            )
        by false q =
            inl (listed-at (ns ++ more) fs x
            ∙ ap (option_map (λ (p : ℕ × ℕ). slice_range (ns ++ more) p.0 p.1)) (at-others x q)
            ∙ sym (listed-at (ns ++ more) es x)
            ∙ lists-stay x)

    pub within-more : AreWithin (length (ns ++ more)) fs
    within-more x p e = by (nat_eq k x) refl
      where
        by : (b : Bool) → nat_eq k x ≡ b → (p.0 ≤ p.1) × (p.1 ≤ length (ns ++ more))
        by true q =
            let same : (length ns, to) ≡ p = same_Some (length ns, to) p (sym (at-key x q) ∙ e) in
            subst (λ (r : ℕ × ℕ). (r.0 ≤ r.1) × (r.1 ≤ length (ns ++ more))) same (omega arith, omega (arith, length-append ns more))
        by false q = within-stays x p (sym (at-others x q) ∙ e)

-- the key's list is kept where the map takes its places
pub put-more : {T E S : Type 0} (r : Result T E) (ns more all : List ℕ) (m n : IndexMap ℕ (ℕ × ℕ) S) (k from to : ℕ) → all ≡ ns ++ more → from ≡ length ns → to ≡ length all → AreWithin (length ns) m.entries → OnOk r (Updates nat_eq m n k (Some (from, to))) → OnErr r (IsUnchanged m n) → MayHave (listed ns m.entries) (listed all n.entries) k more
put-more (Ok x) ns more all m n k from to is begin end within u same =
    let long : to ≡ length ns + length more = end ∙ ap length is ∙ length-append ns more in
    subst (λ (l : List ℕ). MayHave (listed ns m.entries) (listed l n.entries) k more) (sym is)
    (one-more ns more m.entries within k to n.entries long (λ y. u.0 y ∙ ap (λ (i : ℕ). cond (nat_eq k y) (Some (i, to)) (lookup (nat_eq y) m.entries)) begin))
put-more (Err x) ns more all m n k from to is begin end within u same =
    subst (λ (l : List ℕ). MayHave (listed ns m.entries) (listed l n.entries) k more) (sym is)
    (subst (λ (es : List (ℕ × (ℕ × ℕ))). MayHave (listed ns m.entries) (listed (ns ++ more) es) k more) (sym same) (none-more ns more m.entries within k more))

-- ---- by number
pub by-number-at : (ns : List ℕ) (ps : List (Option (ℕ × ℕ))) (k : ℕ) → get_or (listed_by_number ns ps) k None ≡ option_map (λ p. slice_range ns p.0 p.1) (get_or ps k None)
by-number-at ns [] k = refl
by-number-at ns (p ∷ ps) zero = refl
by-number-at ns (p ∷ ps) (suc k) = by-number-at ns ps k

pub keeps-pushed : (ps : List (Option (ℕ × ℕ))) → KeepsPlaces ps (ps ++ None ∷ [])
keeps-pushed [] zero = refl
keeps-pushed [] (suc x) = refl
keeps-pushed (p ∷ ps) zero = refl
keeps-pushed (p ∷ ps) (suc x) = keeps-pushed ps x

-- only places
pub kept-at : (ns : List ℕ) (ps qs : List (Option (ℕ × ℕ))) → KeepsPlaces ps qs → (k : ℕ) (list : List ℕ) → MayHaveAt (listed_by_number ns ps) (listed_by_number ns qs) k list
kept-at ns ps qs same k list x = inl (by-number-at ns qs x ∙ ap (option_map (λ (p : ℕ × ℕ). slice_range ns p.0 p.1)) (same x) ∙ sym (by-number-at ns ps x))

pub within-kept-places : (n : ℕ) (ps qs : List (Option (ℕ × ℕ))) → KeepsPlaces ps qs → AreAllWithin n ps → AreAllWithin n qs
within-kept-places n ps qs same all k p e = all k p (sym (same k) ∙ e)

module _ (ns more : List ℕ) (ps qs : List (Option (ℕ × ℕ))) (same : KeepsPlaces ps qs) (all : AreAllWithin (length ns) ps) where
  numbers-stay : (x : ℕ) → get_or (listed_by_number (ns ++ more) qs) x None ≡ get_or (listed_by_number ns ps) x None
  numbers-stay x =
      by-number-at (ns ++ more) qs x
      ∙ ap (option_map (λ (p : ℕ × ℕ). slice_range (ns ++ more) p.0 p.1)) (same x)
      ∙ same-part ns more (get_or ps x None) (all x)
      ∙ sym (by-number-at ns ps x)

  -- nothing new has a list
  pub none-more-at : (k : ℕ) (list : List ℕ) → MayHaveAt (listed_by_number ns ps) (listed_by_number (ns ++ more) qs) k list
  none-more-at k list x = inl (numbers-stay x)

  pub all-within-stays : AreAllWithin (length (ns ++ more)) qs
  all-within-stays k p e = let w = all k p (sym (same k) ∙ e) in (w.0, omega (arith, w.1, length-append ns more))

  -- the number has the new numbers
  module _ (k from to : ℕ) (begin : from ≡ length ns) (end : to ≡ length ns + length more) (here : k < length qs) where
    at-number : (x : ℕ) → nat_eq k x ≡ true → get_or (set qs k (Some (from, to))) x None ≡ Some (length ns, to)
    at-number x q =
        ap (λ (i : ℕ). get_or (set qs k (Some (from, to))) i None) (sym (eqb-true k x q))
        ∙ get_or-set_same qs k (Some (from, to)) None here
        ∙ ap (λ (i : ℕ). Some (i, to)) begin

    at-other-numbers : (x : ℕ) → nat_eq k x ≡ false → get_or (set qs k (Some (from, to))) x None ≡ get_or qs x None
    at-other-numbers x q = get_or-set_other qs k x (Some (from, to)) None (λ e. eqb-false k x q (sym e))

    pub one-more-at : MayHaveAt (listed_by_number ns ps) (listed_by_number (ns ++ more) (set qs k (Some (from, to)))) k more
    one-more-at x = by (nat_eq k x) refl
      where
        new : List (Option (ℕ × ℕ))
        new = set qs k (Some (from, to))

        by : (b : Bool) → nat_eq k x ≡ b → (get_or (listed_by_number (ns ++ more) new) x None ≡ get_or (listed_by_number ns ps) x None) ⊎ ((x ≡ k) × (get_or (listed_by_number (ns ++ more) new) x None ≡ Some more))
        by true q =
            inr (
              sym (eqb-true k x q),
              by-number-at (ns ++ more) new x
                  ∙ ap (option_map (λ (p : ℕ × ℕ). slice_range (ns ++ more) p.0 p.1)) (at-number x q)
                  ∙ ap Some (part-last ns more to end),
            )
        by false q =
            inl (by-number-at (ns ++ more) new x
            ∙ ap (option_map (λ (p : ℕ × ℕ). slice_range (ns ++ more) p.0 p.1)) (at-other-numbers x q)
            ∙ sym (by-number-at (ns ++ more) qs x)
            ∙ numbers-stay x)

    pub all-within-more : AreAllWithin (length (ns ++ more)) (set qs k (Some (from, to)))
    all-within-more x p e = by (nat_eq k x) refl
      where
        by : (b : Bool) → nat_eq k x ≡ b → (p.0 ≤ p.1) × (p.1 ≤ length (ns ++ more))
        by true q =
            let is : (length ns, to) ≡ p = same_Some (length ns, to) p (sym (at-number x q) ∙ e) in
            subst (λ (r : ℕ × ℕ). (r.0 ≤ r.1) × (r.1 ≤ length (ns ++ more))) is (omega arith, omega (arith, length-append ns more))
        by false q = all-within-stays x p (sym (at-other-numbers x q) ∙ e)
