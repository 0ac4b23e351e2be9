-- Reading by its limits as numbers.
use Rattle.std.proofs.Common.{◌≡◌, ℕ, zero, suc, ◌+◌, ◌-◌, ◌<◌, ◌≤◌, List, ◌∷◌, Bool, true, false, if◌then◌else◌, None, refl, sym, ap, ◌∙◌, arith}
use Rattle.tokens.specs.Lexeme.{Lexeme}
use Rattle.tokens.specs.Lexeme.{Sign}
use Rattle.tokens.specs.declared.symbol.Symbol.TheVariants as symbols
use Rattle.syntax.specs.declared.piece.Kind.{Kind}
use Rattle.syntax.specs.declared.form.Form.{Form}
use Rattle.syntax.specs.declared.form.Form.TheVariants as forms
use Rattle.syntax.specs.Rules.{is_heavy}
use Rattle.syntax.specs.Parsing.{reads, in_rooms, in_layers, inside, reader, read_in, may_open, turned}

pub may_open_none : (b : ℕ) → b ≡ 0 → may_open b ≡ false
unfolding may_open
may_open_none b e = ap may_open e

pub may_open_some : (b : ℕ) → 0 < b → may_open b ≡ true
unfolding may_open
may_open_some zero h = absurd (omega (arith, h))
may_open_some (suc b) h = refl

pub inside_none : (b r : ℕ) (k : Kind) (toks : List Lexeme) → b ≡ 0 → inside b r k toks ≡ None
unfolding inside
inside_none b r k toks e = ap (λ (b : ℕ). inside b r k toks) e

pub inside_step : (b r : ℕ) (k : Kind) (toks : List Lexeme) → 0 < b → inside b r k toks ≡ reads (b - 1) r 4 k toks
unfolding inside
inside_step zero r k toks h = absurd (omega (arith, h))
inside_step (suc b) r k toks h = ap (λ (c : ℕ). reads c r 4 k toks) (omega arith)

no_room : (b t : ℕ) (k : Kind) (toks : List Lexeme) → reads b 0 t k toks ≡ None
unfolding reads in_rooms
no_room zero t k toks = refl
no_room (suc b) t k toks = refl

pub reads_no_room : (b r t : ℕ) (k : Kind) (toks : List Lexeme) → r ≡ 0 → reads b r t k toks ≡ None
reads_no_room b r t k toks e = ap (λ (r : ℕ). reads b r t k toks) e ∙ no_room b t k toks

no_layer : (b r : ℕ) (k : Kind) (toks : List Lexeme) → reads b r 0 k toks ≡ None
unfolding reads in_rooms in_layers
no_layer zero zero k toks = refl
no_layer (suc b) zero k toks = refl
no_layer zero (suc r) k toks = refl
no_layer (suc b) (suc r) k toks = refl

pub reads_no_layer : (b r t : ℕ) (k : Kind) (toks : List Lexeme) → t ≡ 0 → reads b r t k toks ≡ None
reads_no_layer b r t k toks e = ap (λ (t : ℕ). reads b r t k toks) e ∙ no_layer b r k toks

pub reads_suc : (b r t : ℕ) (k : Kind) (toks : List Lexeme) → reads b (suc r) (suc t) k toks ≡ read_in (reader b r 4) (reader b (suc r) t) (may_open b) (suc r) k toks
unfolding reads in_rooms in_layers inside may_open
reads_suc zero r t k toks = refl
reads_suc (suc b) r t k toks = refl

pub reads_step : (b r t : ℕ) (k : Kind) (toks : List Lexeme) → 0 < r → 0 < t → reads b r t k toks ≡ read_in (reader b (r - 1) 4) (reader b r (t - 1)) (may_open b) r k toks
reads_step b zero t k toks h j = absurd (omega (arith, h))
reads_step b (suc r) zero k toks h j = absurd (omega (arith, j))
reads_step b (suc r) (suc t) k toks h j =
    let e : suc r - 1 ≡ r = omega arith in
    let f : suc t - 1 ≡ t = omega arith in
    reads_suc b r t k toks ∙ ap (λ (n : ℕ). read_in (reader b n 4) (reader b (suc r) t) (may_open b) (suc r) k toks) (sym e) ∙ ap (λ (n : ℕ). read_in (reader b (suc r - 1) 4) (reader b (suc r) n) (may_open b) (suc r) k toks) (sym f)

pub heavy_turned : (f : Form) (toks : List Lexeme) → is_heavy (turned f toks) ≡ is_heavy f
unfolding turned is_heavy
heavy_turned forms.Set (Sign symbols.Range ∷ rest) = refl
heavy_turned forms.Channels (Sign symbols.Colon ∷ rest) = refl
heavy_turned f toks = refl

-- a form is higher than its parts by one at most
pub one_higher : (heavy : Bool) (h p room : ℕ) → h ≡ (if heavy then 1 else 0) + p → p ≤ room - 1 → 0 < room → h ≤ room
one_higher true h p room e l r = omega arith
one_higher false h p room e l r = omega arith
