-- From the first part to the whole text.
use Rattle.std.proofs.Common.{◌≡◌, ℕ, ◌<◌, List, [], ◌∷◌, ◌++◌, length, Option, Some, None, refl, sym, ap, subst, ◌∙◌, append_assoc, arith}
use Rattle.std.proofs.lemmas.List.{length-append, append-nil}
use Rattle.tokens.specs.declared.mark.Mark.TheVariants as marks
use Rattle.tokens.specs.declared.reserved.Reserved.TheVariants as reserved
use Rattle.tokens.specs.Lexeme.{Lexeme, Name, Number, Kept, Sign}
use Rattle.tokens.specs.Text.{Part, Blank, Line, Assertion, Block, Token, bytes_of, token_of, IsPart, AreParts, behind, tokens_of, Holds}
use Rattle.tokens.specs.Scanning.{Step, next_at}
use Rattle.tokens.proofs.Marks.{head}
use Rattle.tokens.proofs.Words.{reserved_name}
use Rattle.tokens.proofs.Complete.{step_complete}
use Rattle.tokens.proofs.Sound.{step_sound}

-- tokens after what was found
pub tokens_sound : (text : List ℕ) (x : Step) → next_at text ≡ Some x → (ws : List Lexeme) → Holds x.1 ws → Holds text (behind x.0 ws)
tokens_sound text x e ws h =
    let s = step_sound text x e in
    record { parts = s.part ∷ h.parts; spelled = (x.1, s.spelled, s.is, h.spelled); are = ap (λ (o : Option Lexeme). behind o (tokens_of h.parts)) s.word ∙ ap (behind x.0) h.are }

-- a part takes a byte at least
part_long : (p : Part) (rest : List ℕ) → IsPart p rest → 0 < length (bytes_of p)
part_long (Blank c) rest h = omega arith
part_long (Line body) rest h = omega arith
part_long (Assertion body) rest h = omega arith
part_long (Block k) rest h = omega arith
part_long (Token (Name n) w) rest h = omega (arith, ap length h.0.1.spelled)
part_long (Token (Kept k) w) rest h = omega (arith, ap length h.0, ap length (reserved_name (reserved.Kept k)).spelled)
part_long (Token (Number n) w) rest h = omega (arith, ap length h.0.1.spelled)
part_long (Token (Sign s) w) rest h = omega (arith, ap length h.0, ap length (head (marks.Taken s)).spelled)

pub step_shorter : (text : List ℕ) (x : Step) → next_at text ≡ Some x → length x.1 < length text
step_shorter text x e =
    let s = step_sound text x e in
    omega (arith, ap length s.spelled, length-append (bytes_of s.part) x.1, part_long s.part x.1 s.is)

-- what a text begins with
pub record Begins (text : List ℕ) (ws : List Lexeme) : Type 0 where
  pub step : Step
  pub found : next_at text ≡ Some step
  pub others : List Lexeme
  pub rest : Holds step.1 others
  pub are : ws ≡ behind step.0 others

pub tokens_begin : (text : List ℕ) (ws : List Lexeme) → 0 < length text → Holds text ws → Begins text ws
tokens_begin text ws n h = begin h.parts h.spelled h.are
  where
    begin : (ps : List Part) → AreParts text ps → tokens_of ps ≡ ws → Begins text ws
    begin [] is are = absurd (omega (arith, n, ap length is))
    begin (p ∷ ps) is are = record { step = (token_of p, is.0); found = ap next_at is.1 ∙ step_complete p is.0 is.2; others = tokens_of ps; rest = record { parts = ps; spelled = is.3; are = refl }; are = sym are }

same_step : (o : Option Step) (x y : Step) → o ≡ Some x → o ≡ Some y → x ≡ y
same_step o x y e f = cc

-- tokens of the text are what was found and tokens of what comes after it
pub tokens_only : (text : List ℕ) (x : Step) → 0 < length text → next_at text ≡ Some x → (ws : List Lexeme) → Holds text ws → (vs : List Lexeme) × Holds x.1 vs × (ws ≡ behind x.0 vs)
tokens_only text x n e ws h =
    let b = tokens_begin text ws n h in
    let same = same_step (next_at text) b.step x b.found e in
    (b.others, subst (λ (y : Step). Holds y.1 b.others) same b.rest, b.are ∙ ap (λ (y : Step). behind y.0 b.others) same)

pub tokens_never : (text : List ℕ) (ws : List Lexeme) → 0 < length text → next_at text ≡ None → Holds text ws → ⊥
tokens_never text ws n e h = no (tokens_begin text ws n h).step (tokens_begin text ws n h).found
  where
    no : (x : Step) → next_at text ≡ Some x → ⊥
    no x f = cc

pub no_tokens : (ws : List Lexeme) → Holds [] ws → ws ≡ []
no_tokens ws h = at h.parts h.spelled h.are
  where
    at : (ps : List Part) → AreParts [] ps → tokens_of ps ≡ ws → ws ≡ []
    at [] is are = sym are
    at (p ∷ ps) is are = absurd (omega (arith, ap length is.1, length-append (bytes_of p) is.0, part_long p is.0 is.2))

pub empty_tokens : Holds [] []
empty_tokens = record { parts = []; spelled = refl; are = refl }

pub behind_front : (o : Option Lexeme) (ws : List Lexeme) → behind o ws ≡ behind o [] ++ ws
behind_front None ws = refl
behind_front (Some w) ws = refl

-- ---- the loop: what was kept and what comes after

kept : (o : Option Lexeme) (old new ws : List Lexeme) → new ≡ old ++ behind o [] → old ++ behind o ws ≡ new ++ ws
kept o old new ws e = ap (λ (t : List Lexeme). old ++ t) (behind_front o ws) ∙ sym (append_assoc old (behind o []) ws) ∙ ap (λ (t : List Lexeme). t ++ ws) (sym e)

pub kept_sound : (o : Option Lexeme) (old new : List Lexeme) (text rest after : List ℕ) → new ≡ old ++ behind o [] → ((ws : List Lexeme) → Holds rest ws → Holds text (old ++ ws)) → ((ws : List Lexeme) → Holds after ws → Holds rest (behind o ws)) → (ws : List Lexeme) → Holds after ws → Holds text (new ++ ws)
kept_sound o old new text rest after e so_far step ws h = subst (Holds text) (kept o old new ws e) (so_far (behind o ws) (step ws h))

pub kept_only : (o : Option Lexeme) (old new : List Lexeme) (text rest after : List ℕ) → new ≡ old ++ behind o [] → ((ws : List Lexeme) → Holds text ws → (vs : List Lexeme) × Holds rest vs × (ws ≡ old ++ vs)) → ((ws : List Lexeme) → Holds rest ws → (vs : List Lexeme) × Holds after vs × (ws ≡ behind o vs)) → (ws : List Lexeme) → Holds text ws → (vs : List Lexeme) × Holds after vs × (ws ≡ new ++ vs)
kept_only o old new text rest after e so_far step ws h =
    let a = so_far ws h in
    let b = step a.0 a.1 in
    (b.0, b.1, a.2 ∙ ap (λ (t : List Lexeme). old ++ t) b.2 ∙ kept o old new b.0 e)

no_bytes : (rest : List ℕ) → length rest ≡ 0 → rest ≡ []
no_bytes [] e = refl
no_bytes (c ∷ rest) e = absurd (omega (arith, e))

pub end_sound : (toks : List Lexeme) (text rest : List ℕ) → length rest ≡ 0 → ((ws : List Lexeme) → Holds rest ws → Holds text (toks ++ ws)) → Holds text toks
end_sound toks text rest n so_far = subst (Holds text) (append-nil toks) (so_far [] (subst (λ (r : List ℕ). Holds r []) (sym (no_bytes rest n)) empty_tokens))

pub end_only : (toks : List Lexeme) (text rest : List ℕ) → length rest ≡ 0 → ((ws : List Lexeme) → Holds text ws → (vs : List Lexeme) × Holds rest vs × (ws ≡ toks ++ vs)) → (ws : List Lexeme) → Holds text ws → toks ≡ ws
end_only toks text rest n so_far ws h =
    let a = so_far ws h in
    sym (a.2 ∙ ap (λ (t : List Lexeme). toks ++ t) (no_tokens a.0 (subst (λ (r : List ℕ). Holds r a.0) (no_bytes rest n) a.1)) ∙ append-nil toks)

-- ---- one list of tokens

one_list : (ps : List Part) (text : List ℕ) (vs : List Lexeme) → AreParts text ps → Holds text vs → tokens_of ps ≡ vs
one_list [] text vs is h = sym (no_tokens vs (subst (λ (t : List ℕ). Holds t vs) is h))
one_list (p ∷ ps) text vs is h =
    let rest = is.0 in
    let some : 0 < length text = omega (arith, ap length is.1, length-append (bytes_of p) rest, part_long p rest is.2) in
    let found : next_at text ≡ Some (token_of p, rest) = ap next_at is.1 ∙ step_complete p rest is.2 in
    let others = tokens_only text (token_of p, rest) some found vs h in
    ap (behind (token_of p)) (one_list ps rest others.0 is.3 others.1) ∙ sym others.2

pub tokens_unique : (text : List ℕ) (ws vs : List Lexeme) → Holds text ws → Holds text vs → ws ≡ vs
tokens_unique text ws vs a b = sym a.are ∙ one_list a.parts text vs a.spelled b
