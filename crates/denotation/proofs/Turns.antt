-- One more in a list of bodies, with the room that is left.
use Rattle.std.proofs.Common.{◌≡◌, ℕ, suc, ◌+◌, List, [], ◌∷◌, ◌++◌, drop, Option, Some, None, refl, sym, ap, subst, ◌∙◌, arith, append_assoc, append-nil}
use Rattle.alphabet.specs.Channels.{Values, Parts}
use Rattle.event_phrases.proofs.FirstValues.{led_fits_is}
use Rattle.tokens.specs.declared.read_error.ReadError.{ReadError}
use Rattle.values.specs.Values.{◌>>=◌, Name}
use Rattle.values.specs.View.{Fails}
use Rattle.event_phrases.specs.Fitting.{Fitting, event_fits}
use Rattle.event_phrases.specs.Forms.{FieldPhrase}
use Rattle.event_phrases.specs.Leading.{Fit, first_fit, fit_or, leading, led_fits}
use Rattle.event_phrases.specs.Scopes.{Scope}
use Rattle.event_phrases.proofs.Options.{bind_assoc, fails_at, step}
use Rattle.syntax.proofs.Failing.{fails_on}
use Rattle.denotation.specs.Bodies.{Body, prefix, size, sizes}
use Rattle.denotation.specs.Branches.{Branch, branch_of, first_branch}
use Rattle.denotation.specs.Phrases.{branch_on, branches}
use Rattle.denotation.specs.Rooms.{spare, fit, fits, all_fit, behind, with_one}
use Rattle.denotation.proofs.Rooms.{no_room, one_fails, one_so, two_is}

abbrev some_all : List Body → ℕ → Option (List Body × ℕ)
some_all ps r = Some (ps, r)

abbrev cons : Option Body → Option (List Body) → Option (List Body)
cons o u = o >>= λ b. u >>= λ bs. Some (b ∷ bs)

-- none is left
pub none_left : (room : ℕ) → all_fit room (Some []) ≡ Some ([], room)
unfolding fit sizes
none_left room = no_room [] room

-- nothing in front
pub none_before : (front : List Body) (o : Option (List Body × ℕ)) → front ≡ [] → behind front o ≡ o
none_before front None h = refl
none_before front (Some x) h = ap (λ front. some_all (front ++ x.0) x.1) h

pub all_before : (front : List Body) (room : ℕ) → behind front (all_fit room (Some [])) ≡ Some (front, room)
all_before front room = ap (behind front) (none_left room) ∙ ap (λ ps. some_all ps room) (append-nil front)

-- one, and then the rest
module _ (front : List Body) (room : ℕ) (o : Option Body) (u : Option (List Body)) where
  moved : (p : Body × ℕ) (v : Option (List Body × ℕ)) → behind front (v >>= λ q. spare 0 (p.0 ∷ q.0) q.1) ≡ behind (front ++ p.0 ∷ []) v
  moved p None = refl
  moved p (Some q) = ap (behind front) (no_room (p.0 ∷ q.0) q.1) ∙ ap (λ ps. some_all ps q.1) (sym (append_assoc front (p.0 ∷ []) q.0))

  pub one_and_rest : behind front (all_fit room (cons o u)) ≡ (with_one front (fits room o) >>= λ x. behind x.0 (all_fit x.1 u))
  unfolding sizes
  one_and_rest = ap (behind front) (two_is size sizes sizes (λ b bs. b ∷ bs) 0 (λ b bs. omega arith) room o u) ∙ by (fits room o)
    where
      by : (v : Option (Body × ℕ)) → behind front (v >>= λ p. all_fit p.1 u >>= λ q. spare 0 (p.0 ∷ q.0) q.1) ≡ (with_one front v >>= λ x. behind x.0 (all_fit x.1 u))
      by None = refl
      by (Some p) = moved p (all_fit p.1 u)

-- ---- prefixes

module _ (test : Parts → Fitting) (next : Scope → Option Body) where
  abbrev rest : Option Fit → Option (List Body)
  rest None = Some []
  rest (Some f) = cons (next f.1 >>= λ p. Some (prefix f.0 p)) (branches test next (suc f.0) f.2)

  -- the branches are the first that fits and those after it
  branches_are : (a : ℕ) (ps : List Parts) → branches test next a ps ≡ (first_fit test a ps >>= rest)
  unfolding branches first_fit fit_or
  branches_are a [] = refl
  branches_are a (p ∷ ps) = by (test p) (branches_are (suc a) ps)
    where
      by : (o : Fitting) → branches test next (suc a) ps ≡ (first_fit test (suc a) ps >>= rest) → (o >>= branch_on next a (branches test next (suc a) ps)) ≡ ((o >>= fit_or a ps (first_fit test (suc a) ps)) >>= rest)
      by None h = refl
      by (Some None) h = h
      by (Some (Some s)) h = sym (bind_assoc (next s) (λ p. Some (prefix a p)) (λ b. branches test next (suc a) ps >>= λ bs. Some (b ∷ bs)))

  abbrev more : List Body → Branch → Option (List Body × ℕ)
  more front (None, r) = Some (front, r)
  more front (Some f, r) = behind (front ++ f.1 ∷ []) (all_fit r (branches test next (suc f.0) f.2))

  turn_is : (front : List Body) (a : ℕ) (ps : List Parts) (room : ℕ) → behind front (all_fit room (branches test next a ps)) ≡ (first_branch test next a ps room >>= more front)
  unfolding fit
  turn_is front a ps room = ap (λ o. behind front (all_fit room o)) (branches_are a ps) ∙ by (first_fit test a ps)
    where
      found : (f : Fit) (o : Option (Body × ℕ)) → (with_one front o >>= λ x. behind x.0 (all_fit x.1 (branches test next (suc f.0) f.2))) ≡ ((o >>= λ q. Some (Some (f.0, q.0, f.2), q.1)) >>= more front)
      found f None = refl
      found f (Some q) = refl

      by : (o : Option (Option Fit)) → behind front (all_fit room (o >>= rest)) ≡ ((o >>= branch_of next room) >>= more front)
      by None = refl
      by (Some None) = all_before front room
      by (Some (Some f)) = one_and_rest front room (next f.1 >>= λ p. Some (prefix f.0 p)) (branches test next (suc f.0) f.2) ∙ found f (fits room (next f.1 >>= λ p. Some (prefix f.0 p)))

  module _ (i : ℕ) (ps : List Parts) (room : ℕ) (front : List Body) (whole : Option (List Body × ℕ)) (inv : behind front (all_fit room (branches test next i ps)) ≡ whole) where
    turn : whole ≡ (first_branch test next i ps room >>= more front)
    turn = sym inv ∙ turn_is front i ps room

    pub turn_fails : (k : ReadError) → Fails k (first_branch test next i ps room) → Fails k whole
    turn_fails k f = fails_on k (first_branch test next i ps room) whole (λ e. turn ∙ ap (λ o. o >>= more front) e) f

    pub last_turn : (left : ℕ) → first_branch test next i ps room ≡ Some (None, left) → whole ≡ Some (front, left)
    last_turn left e = turn ∙ ap (λ o. o >>= more front) e

    pub next_turn : (b : ℕ) (p : Body) (es : List Parts) (left : ℕ) (new : List Body) → first_branch test next i ps room ≡ Some (Some (b, p, drop (suc b) es), left) → new ≡ front ++ p ∷ [] → behind new (all_fit left (branches test next (b + 1) (drop (b + 1) es))) ≡ whole
    next_turn b p es left new e n =
        let k : b + 1 ≡ suc b = omega arith in
        ap (λ k. behind new (all_fit left (branches test next k (drop k es)))) k
        ∙ ap (λ front. behind front (all_fit left (branches test next (suc b) (drop (suc b) es)))) n
        ∙ sym (turn ∙ ap (λ o. o >>= more front) e)

-- ---- one branch

module _ (test : Parts → Fitting) (next : Scope → Option Body) (i : ℕ) (ps : List Parts) (room : ℕ) where
  pub fit_fails : (k : ReadError) → Fails k (first_fit test i ps) → Fails k (first_branch test next i ps room)
  fit_fails k f = fails_at k (first_fit test i ps) (branch_of next room) f

  pub none_fits : first_fit test i ps ≡ Some None → first_branch test next i ps room ≡ Some (None, room)
  none_fits h = step (first_fit test i ps) (branch_of next room) None h

  module _ (b : ℕ) (inner : Scope) (es : List Parts) (h : first_fit test i ps ≡ Some (Some (b, inner, es))) where
    abbrev with_event : Body × ℕ → Option Branch
    with_event q = Some (Some (b, q.0, es), q.1)

    abbrev behind_it : Option Body
    behind_it = next inner >>= λ p. Some (prefix b p)

    found : first_branch test next i ps room ≡ (fits room behind_it >>= with_event)
    found = step (first_fit test i ps) (branch_of next room) (Some (b, inner, es)) h

    longer : (p : Body) → size (prefix b p) ≡ size p + 1
    unfolding size
    longer p = omega arith

    pub body_fails : (k : ReadError) → Fails k (fits room (next inner)) → Fails k (first_branch test next i ps room)
    body_fails k f = subst (λ o. Fails k o) (sym found) (fails_at k (fits room behind_it) with_event (one_fails size size (prefix b) (λ p. 1) longer room (next inner) k f))

    module _ (q : Body × ℕ) (m : fits room (next inner) ≡ Some q) where
      one_event : first_branch test next i ps room ≡ (spare 1 (prefix b q.0) q.1 >>= with_event)
      one_event = found ∙ ap (λ o. o >>= with_event) (one_so size size (prefix b) (λ p. 1) longer room (next inner) q m)

      pub event_fails : (k : ReadError) → Fails k (spare 1 (prefix b q.0) q.1) → Fails k (first_branch test next i ps room)
      event_fails k f = subst (λ o. Fails k o) (sym one_event) (fails_at k (spare 1 (prefix b q.0) q.1) with_event f)

      pub event_made : (r : Body × ℕ) → spare 1 (prefix b q.0) q.1 ≡ Some r → first_branch test next i ps room ≡ Some (Some (b, r.0, es), r.1)
      event_made r e = one_event ∙ step (spare 1 (prefix b q.0) q.1) with_event r e

abbrev pub some_fit : Option Fit → Option (Option Fit)
some_fit o = Some o

abbrev pub some_branch : Option (ℕ × Body × List Parts) → ℕ → Option Branch
some_branch o r = Some (o, r)

-- the same where the first values of the fields are found before
pub led_branches : (next : Scope → Option Body) (c : Name) (fs : List FieldPhrase) (sets : List Values) (s : Scope) (us : Values) (a : ℕ) (ps : List Parts) → us ≡ leading s.known fs sets → branches (led_fits c us fs sets s) next a ps ≡ branches (event_fits c fs sets s) next a ps
led_branches next c fs sets s us a ps h =
    ap (λ us. branches (led_fits c us fs sets s) next a ps) h ∙ ap (λ test. branches test next a ps) (led_fits_is c fs sets s)
