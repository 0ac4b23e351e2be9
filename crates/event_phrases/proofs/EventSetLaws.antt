-- Sets of events in memory are those that phrases stand for.
use Rattle.std.proofs.Common.{◌≡◌, ℕ, ◌+◌, ◌<◌, ◌≤◌, List, length, map, drop, get_or, Bool, true, false, cond, not, ◌&&◌, ◌||◌, nat_lt, Option, Some, None, refl, subst, sym, ap, ap₂, ◌∙◌}
use Rattle.std.proofs.lemmas.List.{length-map}
use Rattle.alphabet.specs.Channels.{Channel, events, event_count, event_text}
use Rattle.alphabet.specs.declared.events.Event.{Event}
use Rattle.alphabet.specs.declared.events.Event.TheVariants.{Tick as tick, Of as ev}
use Rattle.alphabet.specs.Events.{is_numbered_below}
use Rattle.alphabet.specs.EventSets.{Set, has, member}
use Rattle.syntax.specs.declared.tree.Tree.{Tree}
use Rattle.syntax.specs.Grammar.{Syntax}
use Rattle.syntax.specs.View.{shape, shapes}
use Rattle.tokens.specs.declared.read_error.ReadError.{ReadError}
use Rattle.values.specs.Values.{◌>>=◌}
use Rattle.values.specs.Worths.{Known, condition}
use Rattle.values.specs.View.{Fails}
use Rattle.event_phrases.specs.declared.forms.Extent.{Extent}
use Rattle.event_phrases.specs.declared.forms.Extent.TheVariants as extents
use Rattle.event_phrases.specs.declared.forms.Combination.{Combination}
use Rattle.event_phrases.specs.declared.forms.Combination.TheVariants as combinations
use Rattle.event_phrases.specs.declared.row.Row.{Row}
use Rattle.event_phrases.specs.Events.{Events, KnownEvents, Beginning, no_events, begins_so, at_number, beginning, beginning_so, whole_event, either, both, outside, is_in_both, combine, gives, together, event_set, set_below, set_of, masked}
use Rattle.event_phrases.specs.Forms.{EventPhrase, event_of, SetPhrase, set_chosen}
use Rattle.event_phrases.specs.View.{row}
use Rattle.event_phrases.proofs.EventNumbers.{drop_item, drop_none, none_below}
use Rattle.event_phrases.proofs.SetsBelow.{below_same, inside_is, is_in, member_is, is_below, has_is}
use Rattle.syntax.proofs.Failing.{fails_on}

abbrev some_set : Set → Option Set
some_set S = Some S

-- ---- sets of one phrase

pub count_is : {A : Type 0} (cs : List Channel) (rows : List (Row A)) → map row rows ≡ events cs → length rows ≡ event_count cs
unfolding Rattle.alphabet.specs.Channels.names
count_is cs rows h = sym (length-map rows row) ∙ ap length h ∙ sym (length-map (events cs) event_text)

pub begun_set : {A : Type 0} (cs : List Channel) (b : Beginning) (rows : List (Row A)) (S : Set) → map row rows ≡ events cs → S ≡ set_below (length rows) (at_number (begins_so b) (map row rows)) → masked cs (Some (beginning_so cs b)) ≡ Some S
unfolding masked
begun_set cs b rows S h s = ap some_set (sym (s ∙ ap₂ (λ n ps. set_below n (at_number (begins_so b) ps)) (count_is cs rows h) h))

-- ---- sets without a phrase in them

none_in : (n : ℕ) (x : Event) → false ≡ is_in n no_events x
none_in n tick = refl
none_in n (ev a) = by (nat_lt a n)
  where
    by : (b : Bool) → false ≡ (b && false)
    by true = refl
    by false = refl

pub none_of_all : (cs : List Channel) (S : Set) → ((x : Event) → member S x ≡ false) → masked cs (Some no_events) ≡ Some S
unfolding masked
none_of_all cs S h = ap some_set (sym (is_below (event_count cs) no_events S (λ x. h x ∙ none_in (event_count cs) x)))

all_in : (n : ℕ) (x : Event) → is_numbered_below n x ≡ is_in n (λ a. nat_lt a n) x
all_in n tick = refl
all_in n (ev a) = by (nat_lt a n)
  where
    by : (b : Bool) → b ≡ (b && b)
    by true = refl
    by false = refl

pub all_of_them : (cs : List Channel) (S : Set) → ((x : Event) → member S x ≡ is_numbered_below (event_count cs) x) → masked cs (Some (λ a. nat_lt a (event_count cs))) ≡ Some S
unfolding masked
all_of_them cs S h = ap some_set (sym (is_below (event_count cs) (λ a. nat_lt a (event_count cs)) S (λ x. h x ∙ all_in (event_count cs) x)))

-- ---- sets of two

combined_in : (c : Combination) (n : ℕ) (A B : Events) (x : Event) → is_in_both c (is_in n A x) (is_in n B x) ≡ is_in n (combine c A B) x
unfolding is_in_both combine
combined_in combinations.Union n A B tick = refl
combined_in combinations.Intersection n A B tick = refl
combined_in combinations.Difference n A B tick = refl
combined_in combinations.Union n A B (ev a) = by (nat_lt a n)
  where
    by : (t : Bool) → ((t && A a) || (t && B a)) ≡ (t && (A a || B a))
    by true = refl
    by false = refl
combined_in combinations.Intersection n A B (ev a) = by (nat_lt a n)
  where
    by : (t : Bool) → ((t && A a) && (t && B a)) ≡ (t && (A a && B a))
    by true = refl
    by false = refl
combined_in combinations.Difference n A B (ev a) = by (nat_lt a n)
  where
    by : (t : Bool) → ((t && A a) && not (t && B a)) ≡ (t && (A a && not (B a)))
    by true = refl
    by false = refl

set_is : {S T : Set} → some_set S ≡ Some T → S ≡ T
set_is h = cc

pub combined_made : (cs : List Channel) (c : Combination) (o p : Option Events) (S T R : Set) → masked cs o ≡ Some S → masked cs p ≡ Some T → ((x : Event) → member R x ≡ is_in_both c (member S x) (member T x)) → masked cs (o >>= λ A. p >>= λ B. Some (combine c A B)) ≡ Some R
unfolding masked
combined_made cs c None p S T R h k m = absurd cc
combined_made cs c (Some A) None S T R h k m = absurd cc
combined_made cs c (Some A) (Some B) S T R h k m =
    let n = event_count cs in
    ap some_set (sym (is_below n (combine c A B) R (λ x. m x ∙ ap₂ (is_in_both c) (ap (λ u. member u x) (sym (set_is h)) ∙ member_is n A x) (ap (λ u. member u x) (sym (set_is k)) ∙ member_is n B x) ∙ combined_in c n A B x)))

-- a fault of a part is one of the whole
pub masked_none : (cs : List Channel) (o : Option Events) → masked cs o ≡ None → o ≡ None
unfolding masked
masked_none cs None h = refl
masked_none cs (Some A) h = absurd cc

pub first_fails : (k : ReadError) (cs : List Channel) (o : Option Events) (f : Events → Option Events) → Fails k (masked cs o) → Fails k (masked cs (o >>= f))
unfolding masked
first_fails k cs o f h = fails_on k (masked cs o) (masked cs (o >>= f)) (λ e. ap (λ o. masked cs (o >>= f)) (masked_none cs o e)) h

pub second_fails : (k : ReadError) (cs : List Channel) (c : Combination) (o p : Option Events) → Fails k (masked cs p) → Fails k (masked cs (o >>= λ A. p >>= λ B. Some (combine c A B)))
unfolding masked
second_fails k cs c o p h = fails_on k (masked cs p) (masked cs (o >>= λ A. p >>= λ B. Some (combine c A B))) (λ e. ap (λ p. masked cs (o >>= λ A. p >>= λ B. Some (combine c A B))) (masked_none cs p e) ∙ by o) h
  where
    by : (o : Option Events) → masked cs (o >>= λ A. None >>= λ B. Some (combine c A B)) ≡ None
    by None = refl
    by (Some A) = refl

-- ---- sets of several phrases

-- the set so far, and the events that the other phrases give
abbrev pub with_set : List Channel → Set → Option Events → Option Set
with_set cs S o = masked cs (o >>= λ B. Some (either (has S) B))

-- where the set lies in Sigma
abbrev pub Lies : List Channel → Set → Type 0
Lies cs S = S ≡ set_of cs (has S)

module _ {A : Type 0} (cs : List Channel) (given_by : EventPhrase → Option Events) (trees : List (Tree A)) where
  abbrev pub others : ℕ → Option Events
  others i = together given_by (map event_of (shapes (drop i trees)))

  pub several_start : (S : Set) → ((x : Event) → member S x ≡ false) → (with_set cs S (others 0) ≡ masked cs (together given_by (map event_of (shapes trees)))) × Lies cs S
  unfolding masked
  several_start S h = (
    by (together given_by (map event_of (shapes trees))),
    set_is (sym (none_of_all cs S h)) ∙ below_same (event_count cs) no_events (has S) (λ a k. sym (h (ev a))),
  )
    where
      empty : (B : Events) → either (has S) B ≡ B
      empty B = λ i a. h (ev a) i || B a

      by : (o : Option Events) → with_set cs S o ≡ masked cs o
      by None = refl
      by (Some B) = ap (λ B. some_set (set_of cs B)) (empty B)

  step : (i : ℕ) (t : Tree A) → i < length trees → t ≡ get_or trees i t → others i ≡ (given_by (event_of (shape t)) >>= λ A. others (i + 1) >>= λ B. Some (either A B))
  unfolding together
  step i t h is = ap (λ ts. together given_by (map event_of (shapes ts))) (drop_item trees i t h is)

  or_same : (n : ℕ) (E B : Events) (S T R : Set) → T ≡ set_below n E → ((x : Event) → member R x ≡ (member S x || member T x)) → (a : ℕ) → a < n → (has S a || (E a || B a)) ≡ (has R a || B a)
  or_same n E B S T R t m a h =
      turn (has S a) (E a) (B a) ∙ ap (λ b. (has S a || b) || B a) (inside_is n E a h ∙ ap (λ S. has S a) (sym t)) ∙ ap (λ b. b || B a) (sym (m (ev a)))
    where
      turn : (p q r : Bool) → (p || (q || r)) ≡ ((p || q) || r)
      turn true q r = refl
      turn false q r = refl

  lies_more : (S T R : Set) (E : Events) → Lies cs S → T ≡ set_of cs E → ((x : Event) → member R x ≡ (member S x || member T x)) → Lies cs R
  lies_more S T R E s t m =
      let n = event_count cs in
      is_below n (has R) R (λ x. m x ∙ ap₂ (λ a b. a || b) (ap (λ u. member u x) s ∙ member_is n (has S) x) (ap (λ u. member u x) t ∙ member_is n E x) ∙ by x)
    where
      turn : (t p q : Bool) → ((t && p) || (t && q)) ≡ (t && (p || (t && q)))
      turn true p q = refl
      turn false p q = refl

      by : (x : Event) → (is_in (event_count cs) (has S) x || is_in (event_count cs) E x) ≡ is_in (event_count cs) (has R) x
      by tick = refl
      by (ev a) =
          let n = event_count cs in
          turn (nat_lt a n) (has S a) (E a) ∙ ap (λ b. nat_lt a n && (has S a || b)) (sym (has_is n E a) ∙ ap (λ S. has S a) (sym t)) ∙ ap (λ b. nat_lt a n && b) (sym (m (ev a)))

  pub several_more : (i : ℕ) (t : Tree A) (S T R : Set) (whole : Option Set) → (with_set cs S (others i) ≡ whole) × Lies cs S → i < length trees → t ≡ get_or trees i t → masked cs (given_by (event_of (shape t))) ≡ Some T → ((x : Event) → member R x ≡ (member S x || member T x)) → (with_set cs R (others (i + 1)) ≡ whole) × Lies cs R
  unfolding masked
  several_more i t S T R whole inv h is got m = by (given_by (event_of (shape t))) (others (i + 1)) got (ap (with_set cs S) (sym (step i t h is)) ∙ inv.0)
    where
      by : (o p : Option Events) → masked cs o ≡ Some T → with_set cs S (o >>= λ A. p >>= λ B. Some (either A B)) ≡ whole → (with_set cs R p ≡ whole) × Lies cs R
      by None p g e = absurd cc
      by (Some E) None g e = (e, lies_more S T R E inv.1 (sym (set_is g)) m)
      by (Some E) (Some B) g e = (
        ap some_set (sym (below_same (event_count cs) (either (has S) (either E B)) (either (has R) B) (or_same (event_count cs) E B S T R (sym (set_is g)) m))) ∙ e,
        lies_more S T R E inv.1 (sym (set_is g)) m,
      )

  pub several_fails : (k : ReadError) (i : ℕ) (t : Tree A) (S : Set) (whole : Option Set) → (with_set cs S (others i) ≡ whole) × Lies cs S → i < length trees → t ≡ get_or trees i t → Fails k (masked cs (given_by (event_of (shape t)))) → Fails k whole
  unfolding masked
  several_fails k i t S whole inv h is f =
      fails_on k (masked cs (given_by (event_of (shape t)))) whole (λ e. sym inv.0 ∙ ap (with_set cs S) (step i t h is ∙ ap (λ o. o >>= λ A. others (i + 1) >>= λ B. Some (either A B)) (masked_none cs (given_by (event_of (shape t))) e))) f

  pub several_end : (i : ℕ) (S : Set) (whole : Option Set) → (with_set cs S (others i) ≡ whole) × Lies cs S → length trees ≤ i → whole ≡ Some S
  unfolding masked together
  several_end i S whole inv h =
      sym inv.0 ∙ ap (λ ts. with_set cs S (together given_by (map event_of (shapes ts)))) (drop_none trees i h)
      ∙ ap (λ B. some_set (set_of cs B)) (λ i a. or_none (has S a) i) ∙ ap some_set (sym inv.1)
    where
      or_none : (b : Bool) → (b || false) ≡ b
      or_none true = refl
      or_none false = refl

-- ---- the sets of `P [ A || B ] Q`

outside_in : (n : ℕ) (S : Set) (x : Event) → (is_numbered_below n x && not (member S x)) ≡ is_in n (outside n (has S)) x
outside_in n S tick = refl
outside_in n S (ev a) = by (nat_lt a n) (has S a)
  where
    by : (t b : Bool) → (t && not b) ≡ (t && (t && not b))
    by true b = refl
    by false b = refl

pub outside_made : (cs : List Channel) (sigma S R : Set) → ((x : Event) → member sigma x ≡ is_numbered_below (event_count cs) x) → ((x : Event) → member R x ≡ (member sigma x && not (member S x))) → R ≡ set_of cs (outside (event_count cs) (has S))
outside_made cs sigma S R g m = is_below (event_count cs) (outside (event_count cs) (has S)) R (λ x. m x ∙ ap (λ b. b && not (member S x)) (g x) ∙ outside_in (event_count cs) S x)

both_in : (n : ℕ) (S T : Set) (x : Event) → ((is_numbered_below n x && not (is_numbered_below n x && not (member S x))) && not (is_numbered_below n x && not (member T x))) ≡ is_in n (both (has S) (has T)) x
both_in n S T tick = refl
both_in n S T (ev a) = by (nat_lt a n) (has S a) (has T a)
  where
    by : (t b c : Bool) → ((t && not (t && not b)) && not (t && not c)) ≡ (t && (b && c))
    by true true true = refl
    by true true false = refl
    by true false c = refl
    by false b c = refl

-- what neither set leaves out
pub both_made : (cs : List Channel) (sigma S T left right some R : Set) → ((x : Event) → member sigma x ≡ is_numbered_below (event_count cs) x)
    → ((x : Event) → member left x ≡ (member sigma x && not (member S x))) → ((x : Event) → member right x ≡ (member sigma x && not (member T x)))
    → ((x : Event) → member some x ≡ (member sigma x && not (member left x))) → ((x : Event) → member R x ≡ (member some x && not (member right x))) → R ≡ set_of cs (both (has S) (has T))
both_made cs sigma S T left right some R g l r s m =
    is_below (event_count cs) (both (has S) (has T)) R
    (λ x. m x ∙ ap₂ (λ a b. a && not b) (s x ∙ ap₂ (λ a b. a && not b) (g x) (l x ∙ ap (λ b. b && not (member S x)) (g x))) (r x ∙ ap (λ b. b && not (member T x)) (g x)) ∙ both_in (event_count cs) S T x)

-- the set of nothing
pub empty_is : (S : Set) → ((x : Event) → member S x ≡ false) → S ≡ 0
unfolding set_below
empty_is S h = none_below no_events S h

abbrev pub some_beginning : Beginning → Option Beginning
some_beginning b = Some b

-- the events of one phrase in a set
module _ {A : Type 0} (cs : List Channel) (known : Known) (e : Extent) (t : EventPhrase) (rows : List (Row A)) (h : map row rows ≡ events cs) (b : Beginning) (S : Set) (s : S ≡ set_below (length rows) (at_number (begins_so b) (map row rows))) where
  pub begun_events : e ≡ extents.Beginnings → beginning cs known t ≡ Some b → masked cs (gives cs known e t) ≡ Some S
  unfolding gives
  begun_events is g = ap (λ e. masked cs (gives cs known e t)) is ∙ ap (λ o. masked cs (o >>= λ b. Some (beginning_so cs b))) g ∙ begun_set cs b rows S h s

  pub member_events : e ≡ extents.Events → whole_event cs known t ≡ Some b → masked cs (gives cs known e t) ≡ Some S
  unfolding gives
  member_events is g = ap (λ e. masked cs (gives cs known e t)) is ∙ ap (λ o. masked cs (o >>= λ b. Some (beginning_so cs b))) g ∙ begun_set cs b rows S h s

-- faults of the phrases in a set
pub begun_fails : (k : ReadError) (cs : List Channel) (known : Known) (e : Extent) (t : EventPhrase) → e ≡ extents.Beginnings → Fails k (beginning cs known t) → Fails k (masked cs (gives cs known e t))
unfolding gives masked
begun_fails k cs known e t h f =
    fails_on k (beginning cs known t) (masked cs (gives cs known e t)) (λ n. ap (λ e. masked cs (gives cs known e t)) h ∙ ap (λ o. masked cs (o >>= λ b. Some (beginning_so cs b))) n) f

pub member_fails : (k : ReadError) (cs : List Channel) (known : Known) (e : Extent) (t : EventPhrase) → e ≡ extents.Events → Fails k (whole_event cs known t) → Fails k (masked cs (gives cs known e t))
unfolding gives masked
member_fails k cs known e t h f =
    fails_on k (whole_event cs known t) (masked cs (gives cs known e t)) (λ n. ap (λ e. masked cs (gives cs known e t)) h ∙ ap (λ o. masked cs (o >>= λ b. Some (beginning_so cs b))) n) f

-- ---- a choice of two sets

module _ (cs : List Channel) (known : Known) (sets : KnownEvents) (c : Syntax) (p q : SetPhrase) where
  pub condition_fails : (k : ReadError) → Fails k (condition known c) → Fails k (masked cs (event_set cs known sets (set_chosen c p q)))
  unfolding masked event_set
  condition_fails k f =
      fails_on k (condition known c) (masked cs (event_set cs known sets (set_chosen c p q))) (λ e. ap (λ o. masked cs (o >>= λ b. cond b (event_set cs known sets p) (event_set cs known sets q))) e) f

  pub chosen_so : (b : Bool) → condition known c ≡ Some b → event_set cs known sets (set_chosen c p q) ≡ cond b (event_set cs known sets p) (event_set cs known sets q)
  unfolding event_set
  chosen_so b e = ap (λ o. o >>= λ b. cond b (event_set cs known sets p) (event_set cs known sets q)) e
