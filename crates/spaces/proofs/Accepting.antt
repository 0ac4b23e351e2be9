-- The least of what states offer, with tick alone among it, and what is refused by it.
use Rattle.std.proofs.Common.{◌≡◌, ◌↔◌, ℕ, ◌<◌, ◌≤◌, true, false, not, ◌||◌, inl, inr, IsTrue, List, length, sym, ap, ◌∙◌, subst, arith, true≢false}
use Rattle.alphabet.specs.Channels.{event_count}
use Rattle.alphabet.specs.Events.{is_event}
use Rattle.alphabet.specs.EventSets.{Set, member}
use Rattle.alphabet.specs.declared.events.Event.{Event}
use Rattle.alphabet.specs.declared.events.Event.TheVariants.{Tick as tick, Of as ev}
use Rattle.tau_closures.proofs.KeptBelongings.{kept-refuses-failure}
use Rattle.tau_closures.specs.Unfolding.{unfolding_depth}
use Rattle.tau_closures.proofs.Offered.{offered-Offers}
use Rattle.tau_closures.specs.Closing.{AllLie}
use Rattle.term.proofs.Closed.{act-in}
use Rattle.term.specs.Proc.{Proc, bodies_of, root}
use Rattle.term.specs.Specs.{Specified}
use Rattle.term.specs.Traces.{In}
use Rattle.spaces.specs.Acceptances.{AreAcceptances, AreOrdered}
use Rattle.spaces.specs.Known.{AreFactsOf}
use Rattle.spaces.specs.Offers.{AreLeastOf, AreOffers, AreSmall, HasPutOffer, IsSmall}
use Rattle.spaces.specs.Spaces.{Spaced, Belongs, states}
use Rattle.spaces.specs.declared.facts.SetFacts.{SetFacts}
use Rattle.spaces.proofs.Offering.{and-left, and-right, both, not-on, off-not, is-off, refuse-says}

-- no state can terminate
pub no-end : (next : Set) (offers sets : List Set) → sets ≡ offers → member next tick ≡ false → AreLeastOf next offers sets
no-end next offers sets e f =
    subst (λ (l : List Set). AreLeastOf next offers l) (sym e)
    (record {
      exact = λ X. (inr, λ w. elim w [ inl t ↦ absurd (true≢false (sym (and-left (member next tick) (not (member X tick)) t) ∙ f)) | inr a ↦ a ]);
      least = λ l. l;
      small = λ s. s;
    })

-- tick alone
module _ (N E : Set) (none : (x : Event) → member N x ≡ false) (one : (x : Event) → member E x ≡ (is_event tick x || member N x)) where
  end-small : IsSmall E
  end-small a t = absurd (true≢false (sym t ∙ one (ev a) ∙ none (ev a)))

  end-apart : (X : Set) → member X tick ≡ false → (x : Event) → IsTrue (member E x) → IsTrue (member X x) → ⊥
  end-apart X f tick m y = true≢false (sym y ∙ f)
  end-apart X f (ev a) m y = true≢false (sym m ∙ one (ev a) ∙ none (ev a))

  -- some state can terminate
  pub with-end : (next : Set) (offers sets : List Set) → member next tick ≡ true → HasPutOffer offers E sets → AreLeastOf next offers sets
  with-end next offers sets t p =
      record {
        exact = λ X. (
          (λ (M, i, apart).
              elim (p.only M i) [
                | inl j ↦ inr (M, j, apart)
                | inr e ↦
                    let f : member X tick ≡ false = is-off (member X tick) (λ y. apart tick (ap (λ (S : Set). member S tick) e ∙ one tick) y) in
                    inl (both (member next tick) (not (member X tick)) t (off-not (member X tick) f))
              ]),
          (λ w.
              elim w [
                | inl e ↦
                    let f = not-on (member X tick) (and-right (member next tick) (not (member X tick)) e) in
                    let (M, i, part) = p.added in
                    (M, i, λ x m y. end-apart X f x (part x m) y)
                | inr (O, j, apart) ↦ let (M, i, part) = p.kept O j in (M, i, λ x m y. apart x (part x m) y)
              ]),
        );
        least = p.least;
        small = λ s M i. elim (p.only M i) [ inl j ↦ s M j | inr e ↦ subst IsSmall (sym e) end-small ];
      }

-- the same sets in another order
pub in-any-order : (next : Set) (offers sets least : List Set) → AreLeastOf next offers least → ((M : Set) → In M sets ↔ In M least) → AreLeastOf next offers sets
in-any-order next offers sets least a same =
    record {
      exact = λ X. (
        (λ (M, i, apart). (a.exact X).0 (M, (same M).0 i, apart)),
        (λ w. let (M, i, apart) = (a.exact X).1 w in (M, (same M).1 i, apart)),
      );
      least = λ l M O i j. a.least l M O ((same M).0 i) ((same O).0 j);
      small = λ s M i. a.small s M ((same M).0 i);
    }

-- all events of what states offer are of the alphabet
offers-small : (spec : Specified) (ps : List Proc) (sets : List Set) → event_count spec.alphabet ≤ 256 → AllLie spec ps → AreOffers sets ps → AreSmall sets
offers-small spec ps sets few lies a M i k t =
    let (P, j, w, o) = a.only M i in
    let (Q, d) = offered-Offers P k (sym (o.events k) ∙ t) in
    let h : k < event_count spec.alphabet = act-in (event_count spec.alphabet) (length spec.bodies) d (lies P j) in
    omega (arith, h, few)

-- so these are the acceptances
pub are-acceptances : {A : Type 0} (space : Spaced) (set : ℕ) (u : List Event) (facts : SetFacts A) (sets : List Set) → Belongs space set u → event_count space.spec.alphabet ≤ 256 → AllLie space.spec (states space set) → AreFactsOf facts (states space set) → AreLeastOf facts.next facts.offers.items sets
    → (AreSmall facts.offers.items → AreOrdered sets) → AreAcceptances (bodies_of space.spec.bodies) root u sets
are-acceptances space set u facts sets b few lies k a ordered =
    record {
      exact = λ X.
          let f = kept-refuses-failure space.spec (unfolding_depth space.spec) u (states space set) b.exact (member X) in
          let r = refuse-says facts (states space set) (bodies_of space.spec.bodies) X k in
          ((λ h. (a.exact X).1 (r.0 (f.1 h))), (λ h. f.0 (r.1 ((a.exact X).0 h))));
      least = a.least k.offers_are.least;
      ordered = ordered (offers-small space.spec (states space set) facts.offers.items few lies k.offers_are);
    }
