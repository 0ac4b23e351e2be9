-- A list that is looked up among those of the sets, and one that is put among them.
use Rattle.std.proofs.Common.{◌≡◌, ◌↔◌, ℕ, suc, ◌+◌, ◌<◌, ◌^◌, Bool, true, false, cond, nat_eq, None, Some, List, [], ◌∷◌, ◌++◌, length, get_or, map, position, slice_get, refl, sym, ap, ◌∙◌, subst, arith}
use Rattle.std.proofs.lemmas.List.{map-append, length-map, length-append, get_or-map, get_or_push}
use Rattle.std.proofs.lemmas.List.Elements.{All-nil, All-push}
use Rattle.std.proofs.lemmas.List.Quantifiers.{position-Some}
use Rattle.std.proofs.lemmas.Option.{slice_get_within, get_or_from_slice_get}
use Rattle.std.specs.Cmp.Lexicographic.{pointwise, bytes_decides}
use Rattle.std.specs.Map.{keys_of, lookup}
use Rattle.std.specs.declared.vec.Vec.{Vec}
use Rattle.indexmap.specs.IndexMap.{IndexMap, insert_entry}
use Rattle.indexmap.proofs.CallerLemmas.{insert_entry-new}
use Rattle.term.specs.Proc.{Proc}
use Rattle.term.specs.Specs.{Specified, IsClosed}
use Rattle.term.specs.Traces.{In}
use Rattle.tau_closures.specs.Looks.{look}
use Rattle.tau_closures.proofs.NodesPutting.{absent}
use Rattle.tau_closures.specs.Keepings.{Keeping}
use Rattle.spaces.specs.declared.facts.SetFacts.{SetFacts}
use Rattle.spaces.specs.Answers.{HasMembers}
use Rattle.spaces.specs.Found.{Found, HasList, members, shown}
use Rattle.spaces.specs.Known.{AreFactsOf, AreOf, IsStored, IsSound, lists_of, found}
use Rattle.spaces.specs.Spaces.{Spaced, GrewFrom, states}
use Rattle.spaces.proofs.Growing.{shown-at}

module _ {A : Type 0} where
  -- the list of a key
  abbrev list : Vec ℕ A → List ℕ
  list k = k.items

  -- a list has a place among the keys just where a set has it
  lists-keys : (es : List (Vec ℕ A × SetFacts A)) → map list (keys_of es) ≡ lists_of es
  lists-keys [] = refl
  lists-keys (e ∷ es) = ap (λ (l : List (List ℕ)). e.0.items ∷ l) (lists-keys es)

  pub found-list : (es : List (Vec ℕ A × SetFacts A)) (ns : List ℕ) (k : ℕ) → position (λ (x : Vec ℕ A). pointwise nat_eq ns x.items) (keys_of es) ≡ Some k → (k < length (lists_of es)) × (get_or (lists_of es) k [] ≡ ns)
  found-list [] ns k e = absurd (cc)
  found-list (x ∷ es) ns k e =
      let keys = keys_of (x ∷ es) in
      let p = position-Some (λ (y : Vec ℕ A). pointwise nat_eq ns y.items) keys k x.0 e in
      let h : k < length keys = p.0 in (
        omega (arith, h, ap length (lists-keys (x ∷ es)), length-map keys list),
        ap (λ (l : List (List ℕ)). get_or l k []) (sym (lists-keys (x ∷ es))) ∙ get_or-map list keys k x.0 [] h ∙ sym ((bytes_decides ns (get_or keys k x.0).items).0 p.1),
      )

  pub no-list : (es : List (Vec ℕ A × SetFacts A)) (ns : List ℕ) → position (λ (x : Vec ℕ A). pointwise nat_eq ns x.items) (keys_of es) ≡ None → (k : ℕ) → k < length (lists_of es) → get_or (lists_of es) k [] ≡ ns → ⊥
  no-list [] ns e k h f = omega arith
  no-list (x ∷ es) ns e k h f =
      let keys = keys_of (x ∷ es) in
      let w : k < length keys = omega (arith, h, ap length (lists-keys (x ∷ es)), length-map keys list) in
      let same : ns ≡ (get_or keys k x.0).items = sym f ∙ ap (λ (l : List (List ℕ)). get_or l k []) (sym (lists-keys (x ∷ es))) ∙ get_or-map list keys k x.0 [] w in
      absent (λ (y : Vec ℕ A). pointwise nat_eq ns y.items) keys x.0 e k w ((bytes_decides ns (get_or keys k x.0).items).1 same)

  -- a stored set, as the map gives it
  pub list-at : (es : List (Vec ℕ A × SetFacts A)) (k : ℕ) (e : Vec ℕ A × SetFacts A) → Some e ≡ slice_get es k → get_or (lists_of es) k [] ≡ e.0.items
  list-at es k e f =
      get_or-map (λ (x : Vec ℕ A × SetFacts A). x.0.items) es k e [] (slice_get_within es k e (sym f))
      ∙ ap (λ (x : Vec ℕ A × SetFacts A). x.0.items) (get_or_from_slice_get es k e e (sym f))

  pub facts-at : (spec : Specified) (a : Keeping) (es : List (Vec ℕ A × SetFacts A)) (k : ℕ) (e : Vec ℕ A × SetFacts A) → IsSound spec a es → Some e ≡ slice_get es k → AreFactsOf e.1 (states (shown (found spec a es)) k)
  facts-at spec a es k e s f =
      let h : k < length es = slice_get_within es k e (sym f) in
      let stored : IsStored a.all.table.processes e =
      subst (λ (x : Vec ℕ A × SetFacts A). IsStored a.all.table.processes x) (get_or_from_slice_get es k e e (sym f)) (s.stored k e h) in
      let w : k < length (lists_of es) = omega (arith, h, length-map es (λ (x : Vec ℕ A × SetFacts A). x.0.items)) in
      subst (λ (ps : List Proc). AreFactsOf e.1 ps) (sym (shown-at (found spec a es) k w ∙ ap (look a.all.table.processes) (list-at es k e f))) stored.facts

  -- ---- a new list
  there-if : (e : Vec ℕ A × SetFacts A) (es : List (Vec ℕ A × SetFacts A)) (v : Vec ℕ A) (b : Bool) → pointwise nat_eq v.items e.0.items ≡ b
      → ((k : ℕ) → k < length (lists_of (e ∷ es)) → get_or (lists_of (e ∷ es)) k [] ≡ v.items → ⊥) → lookup (λ (x : Vec ℕ A). pointwise nat_eq v.items x.items) es ≡ None
      → cond (pointwise nat_eq v.items e.0.items) (Some e.1) (lookup (λ (x : Vec ℕ A). pointwise nat_eq v.items x.items) es) ≡ None
  there-if e es v true q h rest = absurd (h 0 (omega arith) (sym ((bytes_decides v.items e.0.items).0 q)))
  there-if e es v false q h rest = ap (λ (b : Bool). cond b (Some e.1) (lookup (λ (x : Vec ℕ A). pointwise nat_eq v.items x.items) es)) q ∙ rest

  not-there : (es : List (Vec ℕ A × SetFacts A)) (v : Vec ℕ A) → ((k : ℕ) → k < length (lists_of es) → get_or (lists_of es) k [] ≡ v.items → ⊥) → lookup (λ (x : Vec ℕ A). pointwise nat_eq v.items x.items) es ≡ None
  not-there [] v h = refl
  not-there (e ∷ es) v h = there-if e es v (pointwise nat_eq v.items e.0.items) refl h (not-there es v (λ k l f. h (suc k) (omega arith) f))

  pub entries-more : {S : Type 0} (m : IndexMap (Vec ℕ A) (SetFacts A) S) (es : List (Vec ℕ A × SetFacts A)) (v : Vec ℕ A) (f : SetFacts A) → ((k : ℕ) → k < length (lists_of m.entries) → get_or (lists_of m.entries) k [] ≡ v.items → ⊥) → es ≡ insert_entry (λ (a b : Vec ℕ A). pointwise nat_eq a.items b.items) m.entries v f → es ≡ m.entries ++ (v, f) ∷ []
  entries-more m es v f h e = e ∙ insert_entry-new (λ (a b : Vec ℕ A). pointwise nat_eq a.items b.items) m v f (not-there m.entries v h)

  lists-push : (es : List (Vec ℕ A × SetFacts A)) (v : Vec ℕ A) (f : SetFacts A) → lists_of (es ++ (v, f) ∷ []) ≡ lists_of es ++ v.items ∷ []
  lists-push es v f = map-append (λ (x : Vec ℕ A × SetFacts A). x.0.items) es ((v, f) ∷ [])

  module _ (spec : Specified) (es : List (Vec ℕ A × SetFacts A)) (v : Vec ℕ A) (f : SetFacts A) where
    pub shown-push : (a : Keeping) → (shown (found spec a (es ++ (v, f) ∷ []))).sets ≡ (shown (found spec a es)).sets ++ look a.all.table.processes v.items ∷ []
    shown-push a = ap (map (look a.all.table.processes)) (lists-push es v f) ∙ map-append (look a.all.table.processes) (lists_of es) (v.items ∷ [])

    pub sets-grew : (a : Keeping) → GrewFrom (shown (found spec a es)) (shown (found spec a (es ++ (v, f) ∷ [])))
    sets-grew a = record { spec = refl; sets = (look a.all.table.processes v.items ∷ [], shown-push a) }

    pub new-list : (a : Keeping) (n : ℕ) → n ≡ length es → HasList (shown (found spec a (es ++ (v, f) ∷ []))) (look a.all.table.processes v.items) n
    new-list a n e =
        let old : length (map (look a.all.table.processes) (lists_of es)) ≡ n = length-map (lists_of es) (look a.all.table.processes) ∙ length-map es (λ (x : Vec ℕ A × SetFacts A). x.0.items) ∙ sym e in
        record {
          within = omega (arith, old, ap length (shown-push a), length-append (map (look a.all.table.processes) (lists_of es)) (look a.all.table.processes v.items ∷ []));
          is = ap (λ (l : List (List Proc)). get_or l n []) (shown-push a) ∙ get_or_push (map (look a.all.table.processes) (lists_of es)) (look a.all.table.processes v.items) [] n old;
        }

    pub sound-push : (a : Keeping) → AreOf spec a → IsSound spec a es → length es + 1 < 2 ^ 32 → IsStored a.all.table.processes (v, f) → IsSound spec a (es ++ (v, f) ∷ [])
    sound-push a begun s few k =
        record {
          closed = s.closed;
          begun = λ h. begun;
          few = omega (arith, few, length-append es ((v, f) ∷ []));
          stored = All-push (IsStored a.all.table.processes) es (v, f) s.stored k;
        }

-- ---- a set of which a list is stored that has these numbers in another order
pub has-members : (space : Spaced) (ps : List Proc) (ns ms : List ℕ) (set : ℕ) → ((Q : Proc) → In Q (look ps ms) ↔ In Q (look ps ns)) → HasList space (look ps ms) set → HasMembers space (look ps ns) set
has-members space ps ns ms set same h = record { within = h.within; same = λ Q. subst (λ (l : List Proc). In Q l ↔ In Q (look ps ns)) (sym h.is) (same Q) }

-- a list that was found
pub has-list : (f : Found) (ns : List ℕ) (set : ℕ) → set < length f.sets → members f set ≡ ns → HasList (shown f) (look f.table.processes ns) set
has-list f ns set h e =
    record { within = omega (arith, h, length-map f.sets (look f.table.processes)); is = shown-at f set h ∙ ap (look f.table.processes) e }

-- ---- no sets
pub sound-new : {A : Type 0} (spec : Specified) (a : Keeping) (es : List (Vec ℕ A × SetFacts A)) → IsClosed spec → es ≡ [] → IsSound spec a es
sound-new {A} spec a es c e =
    subst (λ (l : List (Vec ℕ A × SetFacts A)). IsSound spec a l) (sym e)
    (record {
      closed = c;
      begun = λ h. absurd (omega (arith, h));
      few = omega arith;
      stored = All-nil (IsStored a.all.table.processes);
    })
