-- What comes of a set by an event.
use Rattle.std.proofs.Common.{◌<◌, ℕ, Option, None, Some, IfNone, IfSome, Result, Ok, Err, IfOk, OnOk, List, [], ◌∷◌, ◌++◌, length, sym, subst}
use Rattle.alphabet.specs.declared.events.Event.{Event}
use Rattle.term.specs.Meaning.{Trace}
use Rattle.term.specs.Proc.{Proc, bodies_of, root}
use Rattle.term.specs.Specs.{Specified}
use Rattle.tau_closures.specs.KeptBelonging.{KeptBelongs}
use Rattle.tau_closures.specs.Limits.{EventMeetsNone}
use Rattle.tau_closures.specs.Unfolding.{unfolding_depth}
use Rattle.spaces.specs.Answers.{HasMembers, IsAnswer}
use Rattle.spaces.specs.Spaces.{Spaced, GrewFrom, Belongs}
use Rattle.spaces.proofs.Growing.{belongs-on, belongs-back}

-- a set with these members belongs to the traces to which the list does
pub members-belong : (space : Spaced) (ps : List Proc) (set : ℕ) (u : List Event) → HasMembers space ps set → KeptBelongs space.spec (unfolding_depth space.spec) ps u → Belongs space set u
members-belong space ps set u m b =
    record { within = m.within; exact = λ Q. ((λ i. (b Q).0 ((m.same Q).0 i)), (λ k. (m.same Q).1 ((b Q).1 k))) }

-- ---- the answer, in a space that grew
module _ (s t : Spaced) (g : GrewFrom s t) (set : ℕ) (h : set < length s.sets) (x : Event) (none : (u : List Event) → Belongs s set u → EventMeetsNone s.spec u x) where
  within : (u : List Event) → Belongs t set u → EventMeetsNone t.spec u x
  within u b = subst (λ (p : Specified). EventMeetsNone p u x) (sym g.spec) (none u (belongs-back s t g set u h b))

  pub answer-none : ((u : List Event) → Belongs s set u → Trace (bodies_of s.spec.bodies) root (u ++ x ∷ []) → ⊥) → IsAnswer t set x None
  answer-none k =
      record {
        exact = λ u b. subst (λ (p : Specified). Trace (bodies_of p.bodies) root (u ++ x ∷ []) → ⊥) (sym g.spec) (k u (belongs-back s t g set u h b));
        within = within;
      }

  pub answer-some : (ps : List Proc) (next : ℕ) → HasMembers t ps next
      → ((u : List Event) → Belongs s set u → Trace (bodies_of s.spec.bodies) root (u ++ x ∷ []) × KeptBelongs s.spec (unfolding_depth s.spec) ps (u ++ x ∷ [])) → IsAnswer t set x (Some next)
  answer-some ps next m k =
      record {
        exact = λ u b.
            let r = k u (belongs-back s t g set u h b) in (
              subst (λ (p : Specified). Trace (bodies_of p.bodies) root (u ++ x ∷ [])) (sym g.spec) r.0,
              members-belong t ps next (u ++ x ∷ []) m (subst (λ (p : Specified). KeptBelongs p (unfolding_depth p) ps (u ++ x ∷ [])) (sym g.spec) r.1),
            );
        within = within;
      }

-- ---- what an answer says of a trace
module _ {E : Type 0} (s t : Spaced) (set : ℕ) (x : Event) (g : GrewFrom s t) (u : List Event) (b : Belongs s set u) where
  pub says-none : (r : Result (Option ℕ) E) → IfOk r (IsAnswer t set x) → IfOk r (λ next. IfNone next (Trace (bodies_of s.spec.bodies) root (u ++ x ∷ []) → ⊥))
  says-none (Err e) k = tt
  says-none (Ok None) k = subst (λ (p : Specified). Trace (bodies_of p.bodies) root (u ++ x ∷ []) → ⊥) g.spec (k.exact u (belongs-on s t g set u b))
  says-none (Ok (Some next)) k = tt

  pub says-some : (r : Result (Option ℕ) E) → IfOk r (IsAnswer t set x) → IfOk r (λ next. IfSome next (λ v. Trace (bodies_of s.spec.bodies) root (u ++ x ∷ []) × Belongs t v (u ++ x ∷ [])))
  says-some (Err e) k = tt
  says-some (Ok None) k = tt
  says-some (Ok (Some next)) k =
      let f = k.exact u (belongs-on s t g set u b) in
      (subst (λ (p : Specified). Trace (bodies_of p.bodies) root (u ++ x ∷ [])) g.spec f.0, f.1)

  pub says-within : (r : Result (Option ℕ) E) → IfOk r (IsAnswer t set x) → OnOk r (EventMeetsNone s.spec u x)
  says-within (Err e) k = tt
  says-within (Ok a) k = subst (λ (p : Specified). EventMeetsNone p u x) g.spec (k.within u (belongs-on s t g set u b))
