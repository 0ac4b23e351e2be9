-- What is made of a call, step by step, and parameters with their values.
use Rattle.std.proofs.Common.{◌≡◌, ℕ, suc, ◌+◌, ◌<◌, ◌≤◌, List, [], ◌∷◌, ◌++◌, length, map, drop, get_or, Bool, true, false, cond, Option, Some, None, Vec, refl, sym, ap, ap₂, subst, ◌∙◌, arith, append_assoc, append-nil}
use Rattle.alphabet.specs.Channels.{FieldValue, Values}
use Rattle.syntax.specs.Grammar.{Syntax}
use Rattle.syntax.specs.View.{shape, shapes}
use Rattle.syntax.specs.declared.tree.Tree.{Tree}
use Rattle.tokens.specs.declared.read_error.ReadError.{ReadError}
use Rattle.values.specs.Values.{◌>>=◌, Name}
use Rattle.values.specs.Worths.{Known, worth, the_value}
use Rattle.values.specs.Names.{Meaning, parametric, meaning}
use Rattle.values.specs.Tables.{names_value}
use Rattle.values.specs.View.{Fails, value}
use Rattle.values.specs.declared.value.Value.{Value}
use Rattle.event_phrases.specs.Scopes.{Scope}
use Rattle.event_phrases.specs.View.{listed}
use Rattle.event_phrases.proofs.EventNumbers.{drop_item, drop_none}
use Rattle.event_phrases.proofs.Options.{bind_assoc, step}
use Rattle.event_phrases.proofs.Scopes.{hidden, seen}
use Rattle.denotation.specs.Denotes.{paired}
use Rattle.denotation.specs.Phrases.{is_for_all, takes, arguments, called_with}
use Rattle.syntax.proofs.Failing.{fails_on}
use Rattle.denotation.specs.Bodies.{Body, name, size}
use Rattle.denotation.specs.Rooms.{spare, fit, fits}

-- ---- lists that grow at their end

-- these, and then those
abbrev pub after : {X : Type 0} → List X → Option (List X) → Option (List X)
after front o = o >>= λ xs. Some (front ++ xs)

abbrev some_list : {X : Type 0} → List X → Option (List X)
some_list xs = Some xs

after_more : {X : Type 0} (front : List X) (x : X) (o : Option (List X)) → after front (o >>= λ xs. Some (x ∷ xs)) ≡ after (front ++ x ∷ []) o
after_more front x None = refl
after_more front x (Some xs) = ap some_list (sym (append_assoc front (x ∷ []) xs))

pub after_none : {X : Type 0} (o : Option (List X)) → after [] o ≡ o
after_none None = refl
after_none (Some xs) = refl

pub after_all : {X : Type 0} (front : List X) → after front (Some []) ≡ Some front
after_all front = ap some_list (append-nil front)

-- ---- arguments

abbrev pub argument : Known → Syntax → Option FieldValue
argument known t = worth known t >>= λ w. the_value w

abbrev pub arguments_of : Known → List Syntax → Option Values
arguments_of known ts = arguments known ts

arguments_from : (known : Known) (t : Syntax) (ts : List Syntax) → arguments_of known (t ∷ ts) ≡ (argument known t >>= λ v. arguments_of known ts >>= λ vs. Some (v ∷ vs))
unfolding arguments
arguments_from known t ts = sym (bind_assoc (worth known t) (λ w. the_value w) (λ v. arguments_of known ts >>= λ vs. Some (v ∷ vs)))

module _ (known : Known) (front : Values) where
  pub no_arguments : after front (arguments_of known []) ≡ Some front
  unfolding arguments
  no_arguments = after_all front

  module _ (t : Syntax) (ts : List Syntax) where
    pub argument_fails : (k : ReadError) → Fails k (argument known t) → Fails k (after front (arguments_of known (t ∷ ts)))
    argument_fails k f =
        fails_on k (argument known t) (after front (arguments_of known (t ∷ ts)))
        (λ e. ap (after front) (arguments_from known t ts ∙ ap (λ o. o >>= λ v. arguments_of known ts >>= λ vs. Some (v ∷ vs)) e)) f

    pub argument_so : (v : FieldValue) → argument known t ≡ Some v → after front (arguments_of known (t ∷ ts)) ≡ after (front ++ v ∷ []) (arguments_of known ts)
    argument_so v e =
        ap (after front) (arguments_from known t ts ∙ ap (λ o. o >>= λ v. arguments_of known ts >>= λ vs. Some (v ∷ vs)) e) ∙ after_more front v (arguments_of known ts)

-- the turns of a loop over phrases, with the values so far
module _ {A : Type 0} (known : Known) (all : List (Tree A)) (i : ℕ) (front : Values) (so_far : after front (arguments_of known (shapes (drop i all))) ≡ arguments_of known (shapes all)) where
  module _ (t : Tree A) (h : i < length all) (at : t ≡ get_or all i t) where
    abbrev rest : List Syntax
    rest = shapes (drop (i + 1) all)

    from_here : after front (arguments_of known (shape t ∷ rest)) ≡ arguments_of known (shapes all)
    from_here = ap (λ ts. after front (arguments_of known (shapes ts))) (sym (drop_item all i t h at)) ∙ so_far

    pub turn_fails : (k : ReadError) → Fails k (argument known (shape t)) → Fails k (arguments_of known (shapes all))
    turn_fails k f = subst (λ o. Fails k o) from_here (argument_fails known front (shape t) rest k f)

    pub turn_so : (v : FieldValue) (new : Values) → argument known (shape t) ≡ Some v → new ≡ front ++ v ∷ [] → after new (arguments_of known rest) ≡ arguments_of known (shapes all)
    turn_so v new e is = ap (λ vs. after vs (arguments_of known rest)) is ∙ sym (argument_so known front (shape t) rest v e) ∙ from_here

  pub turn_last : length all ≤ i → arguments_of known (shapes all) ≡ Some front
  turn_last h = sym so_far ∙ ap (λ ts. after front (arguments_of known (shapes ts))) (drop_none all i h) ∙ no_arguments known front

-- ---- a call

for_all : (xs : List Name) (ts : List Syntax) → length xs ≡ length ts → is_for_all xs ts ≡ true
unfolding is_for_all
for_all [] [] h = refl
for_all [] (t ∷ ts) h = absurd (omega (arith, h))
for_all (x ∷ xs) [] h = absurd (omega (arith, h))
for_all (x ∷ xs) (t ∷ ts) h = for_all xs ts (omega (arith, h))

not_for_all : (xs : List Name) (ts : List Syntax) → (length xs ≡ length ts → ⊥) → is_for_all xs ts ≡ false
unfolding is_for_all
not_for_all [] [] h = absurd (h refl)
not_for_all [] (t ∷ ts) h = refl
not_for_all (x ∷ xs) [] h = refl
not_for_all (x ∷ xs) (t ∷ ts) h = not_for_all xs ts (λ e. h (ap suc e))

takes_none : (m : Option Meaning) (ts : List Syntax) → ((xs : List Name) (t : Syntax) → m ≡ Some (parametric xs t) → ⊥) → takes m ts ≡ false
unfolding takes
takes_none None ts h = refl
takes_none (Some (parametric xs t)) ts h = absurd (h xs t refl)
takes_none (Some m) ts h = refl

takes_by : (m : Option Meaning) (xs : List Name) (t : Syntax) (ts : List Syntax) → m ≡ Some (parametric xs t) → takes m ts ≡ is_for_all xs ts
unfolding takes
takes_by m xs t ts d = ap (λ m. takes m ts) d

module _ (s : Scope) (f : Name) (ts : List Syntax) where
  abbrev of_call : Option Body
  of_call = called_with f ts s

  abbrev from_arguments : Option Body
  from_arguments = arguments s.known ts >>= λ vs. Some (name (f, vs))

  abbrev when_taken : Bool → Option Body
  when_taken b = cond b from_arguments None

  pub call_hidden : names_value (s.known f) ≡ true → of_call ≡ None
  unfolding called_with
  call_hidden h = hidden (s.known f) (when_taken (takes (meaning s.entries f) ts)) h

  module _ (h : names_value (s.known f) ≡ false) where
    call_seen : of_call ≡ when_taken (takes (meaning s.entries f) ts)
    unfolding called_with
    call_seen = seen (s.known f) (when_taken (takes (meaning s.entries f) ts)) h

    pub call_of_none : ((xs : List Name) (t : Syntax) → meaning s.entries f ≡ Some (parametric xs t) → ⊥) → of_call ≡ None
    call_of_none d = call_seen ∙ ap when_taken (takes_none (meaning s.entries f) ts d)

    module _ (xs : List Name) (t : Syntax) (d : meaning s.entries f ≡ Some (parametric xs t)) where
      pub call_of_others : (length xs ≡ length ts → ⊥) → of_call ≡ None
      call_of_others n = call_seen ∙ ap when_taken (takes_by (meaning s.entries f) xs t ts d ∙ not_for_all xs ts n)

      module _ (same : length xs ≡ length ts) where
        call_by : of_call ≡ from_arguments
        call_by = call_seen ∙ ap when_taken (takes_by (meaning s.entries f) xs t ts d ∙ for_all xs ts same)

        pub call_fails : (k : ReadError) (room : ℕ) → Fails k (arguments_of s.known ts) → Fails k (fits room of_call)
        unfolding fit
        call_fails k room e = fails_on k (arguments_of s.known ts) (fits room of_call) (λ n. ap (fits room) (call_by ∙ ap (λ o. o >>= λ vs. Some (name (f, vs))) n)) e

        pub call_so : (vs : Values) → arguments_of s.known ts ≡ Some vs → (room : ℕ) → fits room of_call ≡ spare 1 (name (f, vs)) room
        unfolding fit size
        call_so vs e room = ap (fits room) (call_by ∙ step (arguments_of s.known ts) (λ vs. Some (name (f, vs))) vs e)

-- names by their bytes
abbrev pub bytes : {A : Type 0} → List (Vec ℕ A) → List Name
bytes xs = map (λ x. x.items) xs

pub none_fits : (room : ℕ) (o : Option Body) → o ≡ None → fits room o ≡ None
unfolding fit
none_fits room o h = ap (fits room) h

-- ---- parameters

module _ {A : Type 0} where
  pub unpaired : (xs : List (Vec ℕ A)) (vs : List (Value A)) → (length xs ≡ length vs → ⊥) → None ≡ paired (bytes xs) (listed vs)
  unfolding paired
  unpaired [] [] h = absurd (h refl)
  unpaired [] (v ∷ vs) h = refl
  unpaired (x ∷ xs) [] h = refl
  unpaired (x ∷ xs) (v ∷ vs) h = ap (λ o. o >>= λ is. Some ((x.items, value v) ∷ is)) (unpaired xs vs (λ e. h (ap suc e)))

-- the turns of a loop over parameters, with the inputs so far
none_paired : (front : List (Name × FieldValue)) → after front (paired [] []) ≡ Some front
unfolding paired
none_paired front = after_all front

one_paired : (front : List (Name × FieldValue)) (x : Name) (xs : List Name) (v : FieldValue) (vs : Values) → after front (paired (x ∷ xs) (v ∷ vs)) ≡ after (front ++ (x, v) ∷ []) (paired xs vs)
unfolding paired
one_paired front x xs v vs = after_more front (x, v) (paired xs vs)

module _ {A : Type 0} (xs : List (Vec ℕ A)) (vs : List (Value A)) (i : ℕ) (front : List (Name × FieldValue)) (so_far : after front (paired (bytes (drop i xs)) (listed (drop i vs))) ≡ paired (bytes xs) (listed vs)) where
  pub pair_so : (x : Vec ℕ A) (v : Value A) (new : List (Name × FieldValue)) → i < length xs → x ≡ get_or xs i x → i < length vs → v ≡ get_or vs i v → new ≡ front ++ (x.items, value v) ∷ [] → after new (paired (bytes (drop (i + 1) xs)) (listed (drop (i + 1) vs))) ≡ paired (bytes xs) (listed vs)
  pair_so x v new h at l is e =
      ap (λ is. after is (paired (bytes (drop (i + 1) xs)) (listed (drop (i + 1) vs)))) e
      ∙ sym (one_paired front x.items (bytes (drop (i + 1) xs)) (value v) (listed (drop (i + 1) vs)))
      ∙ ap₂ (λ ys ws. after front (paired (bytes ys) (listed ws))) (sym (drop_item xs i x h at)) (sym (drop_item vs i v l is)) ∙ so_far

  pub pair_last : length xs ≤ i → length vs ≤ i → Some front ≡ paired (bytes xs) (listed vs)
  pair_last h l =
      sym (none_paired front)
      ∙ ap₂ (λ ys ws. after front (paired (bytes ys) (listed ws))) (sym (drop_none xs i h)) (sym (drop_none vs i l)) ∙ so_far
