-- What holds of a space goes on to hold while it grows.
use Rattle.std.proofs.Common.{◌≡◌, ℕ, suc, ◌<◌, ◌≤◌, Option, None, Some, List, [], ◌∷◌, ◌++◌, length, get_or, map, refl, sym, ap, ◌∙◌, subst, arith}
use Rattle.std.proofs.lemmas.List.{get_or-map}
use Rattle.std.proofs.lemmas.List.Elements.{All-weaker}
use Rattle.std.specs.List.{All}
use Rattle.std.specs.declared.vec.Vec.{Vec}
use Rattle.alphabet.specs.declared.events.Event.{Event}
use Rattle.term.specs.Meaning.{Trace}
use Rattle.term.specs.Proc.{Proc, bodies_of, root}
use Rattle.term.specs.Specs.{Specified}
use Rattle.tau_closures.specs.Looks.{look, AllBelow}
use Rattle.tau_closures.specs.Tables.{Tabled, Begins, HasGrown}
use Rattle.tau_closures.proofs.Listing.{begins-same, begins-at, begins-longer, begins-on}
use Rattle.tau_closures.proofs.Looking.{below-grown, look-grown}
use Rattle.tau_closures.specs.Keepings.{Keeping, StaysKept}
use Rattle.tau_closures.specs.KeptBelonging.{KeptBelongs}
use Rattle.tau_closures.specs.Limits.{EventMeetsNone}
use Rattle.tau_closures.specs.Unfolding.{unfolding_depth}
use Rattle.tau_closures.specs.Closing.{AllShallow}
use Rattle.spaces.specs.declared.facts.SetFacts.{SetFacts}
use Rattle.spaces.specs.Answers.{IsAfter, IsAnswer, IsMemory}
use Rattle.spaces.specs.Found.{Found, members, shown}
use Rattle.spaces.specs.Known.{AreFactsOf, AreOf, IsStored, IsSound, lists_of, found}
use Rattle.spaces.specs.Spaces.{Spaced, GrewFrom, Belongs, states}

pub grew-same : (s : Spaced) → GrewFrom s s
grew-same s = record { spec = refl; sets = begins-same [] s.sets }

pub grew-on : (s t u : Spaced) → GrewFrom s t → GrewFrom t u → GrewFrom s u
grew-on s t u g h = record { spec = h.spec ∙ g.spec; sets = begins-on [] s.sets t.sets u.sets g.sets h.sets }

module _ (s t : Spaced) (g : GrewFrom s t) where
  pub states-on : (n : ℕ) → n < length s.sets → states t n ≡ states s n
  states-on n h = begins-at [] s.sets t.sets n g.sets h

  pub here-on : (n : ℕ) → n < length s.sets → n < length t.sets
  here-on n h = let longer : length s.sets ≤ length t.sets = begins-longer [] s.sets t.sets g.sets in omega (arith, longer, h)

  -- a set belongs to the same traces
  pub belongs-on : (n : ℕ) (u : List Event) → Belongs s n u → Belongs t n u
  belongs-on n u b =
      record {
        within = here-on n b.within;
        exact =
            subst (λ (ps : List Proc). KeptBelongs t.spec (unfolding_depth t.spec) ps u) (sym (states-on n b.within))
            (subst (λ (p : Specified). KeptBelongs p (unfolding_depth p) (states s n) u) (sym g.spec) b.exact);
      }

  -- and the other way round, where it was there before
  pub belongs-back : (n : ℕ) (u : List Event) → n < length s.sets → Belongs t n u → Belongs s n u
  belongs-back n u h b =
      record {
        within = h;
        exact =
            subst (λ (ps : List Proc). KeptBelongs s.spec (unfolding_depth s.spec) ps u) (states-on n h)
            (subst (λ (p : Specified). KeptBelongs p (unfolding_depth p) (states t n) u) g.spec b.exact);
      }

  -- answers stay exact
  after-on : (a : Option ℕ) (v : List Event) → IsAfter s v a → IsAfter t v a
  after-on None v h = subst (λ (p : Specified). Trace (bodies_of p.bodies) root v → ⊥) (sym g.spec) h
  after-on (Some m) v h = (subst (λ (p : Specified). Trace (bodies_of p.bodies) root v) (sym g.spec) h.0, belongs-on m v h.1)

  pub answer-on : (n : ℕ) (x : Event) (a : Option ℕ) → n < length s.sets → IsAnswer s n x a → IsAnswer t n x a
  answer-on n x a h k =
      record {
        exact = λ u b. after-on a (u ++ x ∷ []) (k.exact u (belongs-back n u h b));
        within = λ u b. subst (λ (p : Specified). EventMeetsNone p u x) (sym g.spec) (k.within u (belongs-back n u h b));
      }

  pub memory-on : (es : List (ℕ × Option ℕ)) → IsMemory s es → IsMemory t es
  memory-on es m =
      record {
        remembered = λ n x a i e.
            let r = m.remembered n x a i e in
            record { here = here-on n r.here; is = answer-on n x a r.here r.is };
        few = m.few;
      }

-- the processes are of the same specification
pub areof-on : (spec : Specified) (a b : Keeping) → StaysKept a b → AreOf spec a → AreOf spec b
areof-on spec a b k o = (k.all.bodies ∙ o.0, k.deep ∙ o.1)

-- ---- what is stored
pub shown-at : (f : Found) (n : ℕ) → n < length f.sets → states (shown f) n ≡ look f.table.processes (members f n)
shown-at f n h = get_or-map (look f.table.processes) f.sets n [] [] h

module _ {A : Type 0} where
  stored-on : (t u : Tabled) → HasGrown t u → (e : Vec ℕ A × SetFacts A) → IsStored t.processes e → IsStored u.processes e
  stored-on t u g e s =
      let same = sym (look-grown t u g e.0.items s.below) in
      record {
        below = below-grown t u g e.0.items s.below;
        shallow = subst (λ (ps : List Proc). AllShallow ps) same s.shallow;
        facts = subst (λ (ps : List Proc). AreFactsOf e.1 ps) same s.facts;
      }

  -- by its number
  pub stored-at : (ps : List Proc) (es : List (Vec ℕ A × SetFacts A)) (n : ℕ) → All (IsStored ps) es → n < length es → (e : Vec ℕ A × SetFacts A) × (get_or (lists_of es) n [] ≡ e.0.items) × IsStored ps e
  stored-at ps [] n all h = absurd (omega arith)
  stored-at ps (e ∷ es) n all h = (get_or (e ∷ es) n e, get_or-map (λ (x : Vec ℕ A × SetFacts A). x.0.items) (e ∷ es) n e [] h, all n e h)

  -- a table that grew shows the same sets
  same-lists : (t u : Tabled) → HasGrown t u → (es : List (Vec ℕ A × SetFacts A)) → All (IsStored t.processes) es → map (look u.processes) (lists_of es) ≡ map (look t.processes) (lists_of es)
  same-lists t u g [] all = refl
  same-lists t u g (e ∷ es) all =
      let first : IsStored t.processes e = all 0 e (omega arith) in
      let head : look u.processes e.0.items ≡ look t.processes e.0.items = look-grown t u g e.0.items first.below in
      let tail : map (look u.processes) (lists_of es) ≡ map (look t.processes) (lists_of es) = same-lists t u g es (λ k d h. all (suc k) d (omega arith)) in
      ap (λ (l : List Proc). l ∷ map (look u.processes) (lists_of es)) head ∙ ap (λ (l : List (List Proc)). look t.processes e.0.items ∷ l) tail

  pub table-grew : (spec : Specified) (a b : Keeping) (es : List (Vec ℕ A × SetFacts A)) → All (IsStored a.all.table.processes) es → StaysKept a b → GrewFrom (shown (found spec a es)) (shown (found spec b es))
  table-grew spec a b es all k =
      let lists = map (look a.all.table.processes) (lists_of es) in
      record {
        spec = refl;
        sets = subst (λ (l : List (List Proc)). Begins lists l) (sym (same-lists a.all.table b.all.table k.all.table es all)) (begins-same [] lists);
      }

  -- without sets any table does
  pub empty-grew : (spec : Specified) (a b : Keeping) (es : List (Vec ℕ A × SetFacts A)) → length es ≡ 0 → GrewFrom (shown (found spec a es)) (shown (found spec b es))
  empty-grew spec a b [] e = record { spec = refl; sets = ([], refl) }
  empty-grew spec a b (x ∷ es) e = absurd (omega (arith, e))

  module _ (spec : Specified) (es : List (Vec ℕ A × SetFacts A)) where
    pub sound-on : (a b : Keeping) → IsSound spec a es → StaysKept a b → IsSound spec b es
    sound-on a b s k =
        record {
          closed = s.closed;
          begun = λ h. areof-on spec a b k (s.begun h);
          few = s.few;
          stored = All-weaker (IsStored a.all.table.processes) (IsStored b.all.table.processes) (stored-on a.all.table b.all.table k.all.table) es s.stored;
        }

    -- a stored set
    module _ (a : Keeping) (s : IsSound spec a es) (n : ℕ) (h : n < length es) where
      pub sound-below : AllBelow (length a.all.table.processes) (get_or (lists_of es) n [])
      sound-below =
          let (e, f, k) = stored-at a.all.table.processes es n s.stored h in
          subst (λ (ns : List ℕ). AllBelow (length a.all.table.processes) ns) (sym f) k.below

      pub sound-shallow : AllShallow (look a.all.table.processes (get_or (lists_of es) n []))
      sound-shallow =
          let (e, f, k) = stored-at a.all.table.processes es n s.stored h in
          subst (λ (ns : List ℕ). AllShallow (look a.all.table.processes ns)) (sym f) k.shallow
