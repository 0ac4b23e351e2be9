-- What phrases denote, and the room for it, step by step.
use Rattle.std.proofs.Common.{◌≡◌, ℕ, ◌+◌, List, [], ◌∷◌, ◌++◌, map, Bool, cond, arith, Option, Some, None, sym, ap, subst, ◌∙◌}
use Rattle.std.proofs.lemmas.List.{map-append}
use Rattle.alphabet.specs.Channels.{Values, events, event_count}
use Rattle.alphabet.specs.EventSets.{Set}
use Rattle.term.specs.Traces.{Pairs}
use Rattle.values.specs.Worths.{condition}
use Rattle.event_phrases.specs.Events.{masked, pairs_of}
use Rattle.syntax.specs.Grammar.{Syntax, Syntaxes}
use Rattle.syntax.proofs.Failing.{fails_on}
use Rattle.tokens.specs.declared.read_error.ReadError.{ReadError}
use Rattle.values.specs.Values.{◌>>=◌, Name}
use Rattle.values.specs.View.{Fails}
use Rattle.event_phrases.specs.Fitting.{event_fits}
use Rattle.event_phrases.specs.Forms.{FieldPhrase, event_of}
use Rattle.event_phrases.specs.Prefixes.{prefix_parts}
use Rattle.event_phrases.specs.Scopes.{Scope, events_by}
use Rattle.event_phrases.proofs.Options.{step, fails_at}
use Rattle.denotation.specs.Bodies.{Body, hide, size, sizes, choice_of}
use Rattle.denotation.specs.declared.draft.Operation.{Operation}
use Rattle.denotation.specs.declared.draft.Operation.TheVariants as operations
use Rattle.denotation.specs.declared.forms.Join.{Join}
use Rattle.denotation.specs.declared.forms.Join.TheVariants as joins
use Rattle.denotation.specs.Phrases.{Between, Phrase, hiding, renaming, renamed, conditional, joined, replicated, other, join_of, none_of, operation_of, composed, denoted, over, branches, prefixed_by}
use Rattle.denotation.specs.Rooms.{spare, fit, fits, all_fit, halved_nodes, spare_joined, operation_nodes, renaming_nodes, renamed_within, behind, with_one}
use Rattle.denotation.specs.Walks.{Visit, stands, first_scope, visits, on_visits}
use Rattle.denotation.proofs.Halves.{joint_size, size_halves, all_is}
use Rattle.denotation.proofs.Rooms.{one_fails, one_so, three_first, three_part, three_second, three_so, part_first, part_fails, part_on, part_so}
use Rattle.denotation.proofs.Turns.{one_and_rest, all_before}
use Rattle.denotation.proofs.Walks.{begun, first_is}

abbrev all_of : List Body → ℕ → Option (List Body × ℕ)
all_of ps r = Some (ps, r)

module _ (s : Scope) (room : ℕ) where
  pub nothing_denoted : (p : Phrase) → other ≡ p → fits room (denoted p s) ≡ None
  unfolding denoted fit
  nothing_denoted p e = ap (λ p. fits room (denoted p s)) (sym e)

  -- ---- two with something between them

  module _ (m : Between) (t u : Phrase) where
    more : (p : Body) (o : Operation) (q : Body) → size (composed s o p q) ≡ size p + (size q + operation_nodes o)
    unfolding size composed operation_nodes
    more p (operations.Joint k) q = joint_size k p q
    more p (operations.Alphabetised A B) q = omega arith

    pub joined_first : (k : ReadError) → Fails k (fits room (denoted t s)) → Fails k (fits room (denoted (joined m t u) s))
    unfolding denoted
    joined_first = three_first size size size (λ p o q. composed s o p q) operation_nodes more room (denoted t s) (operation_of s m) (denoted u s)

    module _ (p : Body × ℕ) (a : fits room (denoted t s) ≡ Some p) where
      pub joined_between : (k : ReadError) → Fails k (operation_of s m) → Fails k (fits room (denoted (joined m t u) s))
      unfolding denoted
      joined_between = three_part size size size (λ p o q. composed s o p q) operation_nodes more room (denoted t s) (operation_of s m) (denoted u s) p a

      module _ (o : Operation) (b : operation_of s m ≡ Some o) where
        pub joined_second : (k : ReadError) → Fails k (fits p.1 (denoted u s)) → Fails k (fits room (denoted (joined m t u) s))
        unfolding denoted
        joined_second = three_second size size size (λ p o q. composed s o p q) operation_nodes more room (denoted t s) (operation_of s m) (denoted u s) p a o b

        pub joined_so : (q : Body × ℕ) → fits p.1 (denoted u s) ≡ Some q → fits room (denoted (joined m t u) s) ≡ spare (operation_nodes o) (composed s o p.0 q.0) q.1
        unfolding denoted
        joined_so = three_so size size size (λ p o q. composed s o p q) operation_nodes more room (denoted t s) (operation_of s m) (denoted u s) p a o b

  -- ---- one with a set or with pairs

  module _ (t : Phrase) (e : Syntax) where
    hide_size : (p : Body) (A : Set) → size (hide A p) ≡ size p + 1
    unfolding size
    hide_size p A = omega arith

    pub hiding_first : (k : ReadError) → Fails k (fits room (denoted t s)) → Fails k (fits room (denoted (hiding t e) s))
    unfolding denoted
    hiding_first = part_first size size (λ p A. hide A p) (λ A. 1) hide_size room (denoted t s) (masked s.channels (events_by s e))

    module _ (p : Body × ℕ) (a : fits room (denoted t s) ≡ Some p) where
      pub hiding_set : (k : ReadError) → Fails k (masked s.channels (events_by s e)) → Fails k (fits room (denoted (hiding t e) s))
      unfolding denoted
      hiding_set = part_fails size size (λ p A. hide A p) (λ A. 1) hide_size room (denoted t s) (masked s.channels (events_by s e)) p a

      pub hiding_so : (A : Set) → masked s.channels (events_by s e) ≡ Some A → fits room (denoted (hiding t e) s) ≡ spare 1 (hide A p.0) p.1
      unfolding denoted
      hiding_so = part_so size size (λ p A. hide A p) (λ A. 1) hide_size room (denoted t s) (masked s.channels (events_by s e)) p a

  module _ (t : Phrase) (ts : Syntaxes) where
    renamed_size : (p : Body) (R : Pairs) → size (renamed (event_count s.channels) R p) ≡ size p + renaming_nodes R
    unfolding size renamed renaming_nodes
    renamed_size p [] = omega arith
    renamed_size p (r ∷ R) = omega arith

    pub renaming_first : (k : ReadError) → Fails k (fits room (denoted t s)) → Fails k (fits room (denoted (renaming t ts) s))
    unfolding denoted
    renaming_first = part_first size size (λ p R. renamed (event_count s.channels) R p) renaming_nodes renamed_size room (denoted t s) (pairs_of s.channels s.known ts)

    pub renaming_on : (p : Body × ℕ) → fits room (denoted t s) ≡ Some p → fits room (denoted (renaming t ts) s) ≡ renamed_within (event_count s.channels) (pairs_of s.channels s.known ts) p.0 p.1
    unfolding denoted
    renaming_on = part_on size size (λ p R. renamed (event_count s.channels) R p) renaming_nodes renamed_size room (denoted t s) (pairs_of s.channels s.known ts)

  -- ---- conditions

  module _ (c : Syntax) (t u : Phrase) where
    pub conditional_fails : (k : ReadError) → Fails k (condition s.known c) → Fails k (fits room (denoted (conditional c t u) s))
    unfolding denoted fit
    conditional_fails k f = fails_on k (condition s.known c) (fits room (denoted (conditional c t u) s)) (λ n. ap (λ o. fits room (o >>= λ b. cond b (denoted t s) (denoted u s))) n) f

    pub conditional_so : (b : Bool) → condition s.known c ≡ Some b → fits room (denoted (conditional c t u) s) ≡ fits room (cond b (denoted t s) (denoted u s))
    unfolding denoted
    conditional_so b e = ap (λ o. fits room (o >>= λ b. cond b (denoted t s) (denoted u s))) e

  -- ---- prefixes

  module _ (e : Syntax) (next : Scope → Option Body) where
    pub no_prefix : (k : ReadError) → Fails k (prefix_parts s (event_of e)) → Fails k (fits room (prefixed_by s e next))
    unfolding prefixed_by fit
    no_prefix k f = fails_on k (prefix_parts s (event_of e)) (fits room (prefixed_by s e next)) (λ n. ap (λ o. fits room (o >>= λ p. branches (event_fits p.0 p.1 p.2 s) next 0 (events s.channels) >>= λ ps. Some (choice_of ps))) n) f

    module _ (c : Name) (fs : List FieldPhrase) (sets : List Values) (h : prefix_parts s (event_of e) ≡ Some (c, fs, sets)) where
      abbrev all : Option (List Body)
      all = branches (event_fits c fs sets s) next 0 (events s.channels)

      there : fits room (prefixed_by s e next) ≡ fits room (all >>= λ ps. Some (choice_of ps))
      unfolding prefixed_by
      there = ap (fits room) (step (prefix_parts s (event_of e)) (λ p. branches (event_fits p.0 p.1 p.2 s) next 0 (events s.channels) >>= λ ps. Some (choice_of ps)) (c, fs, sets) h)

      choice_size : (ps : List Body) → size (choice_of ps) ≡ sizes ps + halved_nodes ps
      unfolding join_of none_of
      choice_size = size_halves joins.External

      pub branches_fail : (k : ReadError) → Fails k (all_fit room all) → Fails k (fits room (prefixed_by s e next))
      branches_fail k f = subst (λ o. Fails k o) (sym there) (one_fails sizes size choice_of halved_nodes choice_size room all k f)

      pub branches_made : (x : List Body × ℕ) → all_fit room all ≡ Some x → fits room (prefixed_by s e next) ≡ spare (halved_nodes x.0) (choice_of x.0) x.1
      branches_made x g = there ∙ one_so sizes size choice_of halved_nodes choice_size room all x g

  -- ---- replicated forms

  module _ (j : Join) (gs : List Syntax) (t : Phrase) where
    on_walk : fits room (denoted (replicated j gs t) s) ≡ (all_fit room (first_scope (visits gs s) >>= on_visits (denoted t)) >>= λ p. spare_joined j p.0 p.1)
    unfolding denoted
    on_walk = all_is j room (over gs (denoted t) s) ∙ ap (λ o. all_fit room o >>= λ p. spare_joined j p.0 p.1) (begun (denoted t) gs s)

    pub no_first : (k : ReadError) → Fails k (first_scope (visits gs s)) → Fails k (fits room (denoted (replicated j gs t) s))
    unfolding fit
    no_first k f = fails_on k (first_scope (visits gs s)) (fits room (denoted (replicated j gs t) s)) (λ n. on_walk ∙ ap (λ o. all_fit room (o >>= on_visits (denoted t)) >>= λ p. spare_joined j p.0 p.1) n) f

    module _ (us : List Visit) (e : first_scope (visits gs s) ≡ Some us) where
      from_first : fits room (denoted (replicated j gs t) s) ≡ (all_fit room (on_visits (denoted t) us) >>= λ p. spare_joined j p.0 p.1)
      from_first = on_walk ∙ ap (λ o. all_fit room (o >>= on_visits (denoted t)) >>= λ p. spare_joined j p.0 p.1) e

      pub replicated_fails : (k : ReadError) → Fails k (all_fit room (on_visits (denoted t) us)) → Fails k (fits room (denoted (replicated j gs t) s))
      replicated_fails k f = subst (λ o. Fails k o) (sym from_first) (fails_at k (all_fit room (on_visits (denoted t) us)) (λ p. spare_joined j p.0 p.1) f)

      pub replicated_so : (x : List Body × ℕ) → all_fit room (on_visits (denoted t) us) ≡ Some x → fits room (denoted (replicated j gs t) s) ≡ spare_joined j x.0 x.1
      replicated_so x h = from_first ∙ step (all_fit room (on_visits (denoted t) us)) (λ p. spare_joined j p.0 p.1) x h

-- ---- the turns of a walk

module _ (next : Scope → Option Body) (front : List Body) (us : List Visit) (room : ℕ) (whole : Option (List Body × ℕ)) (inv : behind front (all_fit room (on_visits next us)) ≡ whole) where
  pub walk_end : us ≡ [] → whole ≡ Some (front, room)
  unfolding on_visits
  walk_end h = sym inv ∙ ap (λ us. behind front (all_fit room (on_visits next us))) h ∙ all_before front room

  module _ (s : Scope) (vs : List Visit) (h : us ≡ stands s ∷ vs) where
    standing : whole ≡ (with_one front (fits room (next s)) >>= λ x. behind x.0 (all_fit x.1 (on_visits next vs)))
    unfolding on_visits
    standing = sym inv ∙ ap (λ us. behind front (all_fit room (on_visits next us))) h ∙ one_and_rest front room (next s) (on_visits next vs)

    pub stands_fails : (k : ReadError) → Fails k (with_one front (fits room (next s))) → Fails k whole
    stands_fails k f = fails_on k (with_one front (fits room (next s))) whole (λ e. standing ∙ ap (λ o. o >>= λ x. behind x.0 (all_fit x.1 (on_visits next vs))) e) f

    module _ (x : List Body × ℕ) (m : with_one front (fits room (next s)) ≡ Some x) where
      later : whole ≡ behind x.0 (all_fit x.1 (first_scope vs >>= on_visits next))
      later = standing ∙ ap (λ o. o >>= λ x. behind x.0 (all_fit x.1 (on_visits next vs))) m ∙ ap (λ o. behind x.0 (all_fit x.1 o)) (first_is next vs)

      pub no_next : (k : ReadError) → Fails k (first_scope vs) → Fails k whole
      unfolding fit
      no_next k f = fails_on k (first_scope vs) whole (λ e. later ∙ ap (λ o. behind x.0 (all_fit x.1 (o >>= on_visits next))) e) f

      pub next_found : (ws : List Visit) → first_scope vs ≡ Some ws → behind x.0 (all_fit x.1 (on_visits next ws)) ≡ whole
      next_found ws e = sym (later ∙ ap (λ o. behind x.0 (all_fit x.1 (o >>= on_visits next))) e)

-- with one more, step by step

pub no_process : (k : ReadError) (front : List Body) (o : Option (Body × ℕ)) → Fails k o → Fails k (with_one front o)
no_process k front o f = fails_at k o (λ p. with_one front (Some p)) f

pub one_process : (front new : List Body) (o : Option (Body × ℕ)) (p : Body × ℕ) → o ≡ Some p → new ≡ front ++ p.0 ∷ [] → with_one front o ≡ Some (new, p.1)
one_process front new o p e n = ap (with_one front) e ∙ ap (λ ps. all_of ps p.1) (sym n)

pub put_behind : {A : Type 0} (view : A → Body) (xs new : List A) (t : A) → new ≡ xs ++ t ∷ [] → map view new ≡ map view xs ++ view t ∷ []
put_behind view xs new t is = ap (map view) is ∙ map-append view xs (t ∷ [])
