-- What a form's two halves read is a node that fits.
use Rattle.std.proofs.Common.{◌≡◌, ℕ, zero, suc, ◌<◌, ◌≤◌, List, [], ◌∷◌, ◌++◌, length, Bool, true, false, not, Option, Some, None, refl, sym, ap, subst, ◌∙◌, ◌&&◌}
use Rattle.tokens.specs.Lexeme.{Lexeme, Sign}
use Rattle.tokens.specs.declared.symbol.Symbol.TheVariants as symbols
use Rattle.tokens.proofs.Marks.{not_true}
use Rattle.syntax.specs.declared.piece.Sign.TheVariants as signs
use Rattle.syntax.specs.declared.piece.Fields.{Fields}
use Rattle.syntax.specs.declared.piece.Fields.TheVariants as fields
use Rattle.syntax.specs.declared.piece.Kind.TheVariants as kinds
use Rattle.syntax.specs.declared.piece.Place.TheVariants as places
use Rattle.syntax.specs.declared.piece.Start.{Start}
use Rattle.syntax.specs.declared.piece.Start.TheVariants as starts
use Rattle.syntax.specs.declared.piece.Piece.{Piece}
use Rattle.syntax.specs.declared.piece.Piece.TheVariants as pieces
use Rattle.syntax.specs.declared.form.Form.{Form}
use Rattle.syntax.specs.declared.form.Form.TheVariants as forms
use Rattle.syntax.specs.Rules.{rule}
use Rattle.syntax.specs.Grammar.{Syntax, Called, Node, Syntaxes, flat, spell, nests, highest, is_open, shut, may_stand, takes, takes_field, takes_fields, FitAll}
use Rattle.syntax.specs.Parsing.{◌>>=◌, Found, Row, Reader, syntaxes, begins_field, name_at, another, last_is_open, others_on, others, put, step, row, front, back, turned, node_of, node_on, node}
use Rattle.syntax.proofs.Sound.{bind_some, guard_some, some_is, some_of, name_is, spell_sign, IsSound, row_sound}
use Rattle.syntax.proofs.Branches.{some_row}
use Rattle.syntax.proofs.Forms.{tidy_rule, front_turned, is_plain, plain_turned, rowed_rule}
use Rattle.syntax.proofs.CompleteBools.{both_true}

-- ---- pieces in two runs

bind_bind : {A B C : Type 0} (o : Option A) (f : A → Option C) (g : A → Option B) (h : B → Option C) → ((x : A) → f x ≡ (g x >>= h)) → (o >>= f) ≡ ((o >>= g) >>= h)
bind_bind None f g h e = refl
bind_bind (Some x) f g h e = e x

row_append : (read : Reader) (opening : Bool) (ps qs : List Piece) (parts : List Syntax) (toks : List Lexeme) → row read opening (ps ++ qs) parts toks ≡ (row read opening ps parts toks >>= λ y. row read opening qs y.0 y.1)
unfolding row
row_append read opening [] qs parts toks = refl
row_append read opening (p ∷ ps) qs parts toks =
    bind_bind (step read opening p parts toks) (λ y. row read opening (ps ++ qs) y.0 y.1) (λ y. row read opening ps y.0 y.1) (λ y. row read opening qs y.0 y.1)
    (λ y. row_append read opening ps qs y.0 y.1)

rows : (read : Reader) (opening : Bool) (ps qs : List Piece) (toks : List Lexeme) (y z : Row) → row read opening ps [] toks ≡ Some y → row read opening qs y.0 y.1 ≡ Some z → row read opening (ps ++ qs) [] toks ≡ Some z
rows read opening ps qs toks y z e h =
    row_append read opening ps qs [] toks ∙ ap (λ (o : Option Row). o >>= λ y. row read opening qs y.0 y.1) e ∙ h

-- ---- what holds of all parts

others_keep_on : (P : List Syntax → Type 0) (start : Start) (part : List Lexeme → Option Found) (go : List Syntax → List Lexeme → Option Row) → ((parts : List Syntax) (toks begin : List Lexeme) (x : Found) → P parts → another start (last_is_open parts) toks ≡ some_of begin → part begin ≡ Some x → P (parts ++ x.0 ∷ [])) → ((parts : List Syntax) (toks : List Lexeme) (y : Row) → P parts → go parts toks ≡ Some y → P y.0) → (parts : List Syntax) (toks : List Lexeme) (y : Row) (o : Option (List Lexeme)) → P parts → another start (last_is_open parts) toks ≡ o → others_on part go parts toks o ≡ Some y → P y.0
others_keep_on P start part go more goes parts toks y None p e h = subst (λ (z : Row). P z.0) (some_is (parts, toks) y h) p
others_keep_on P start part go more goes parts toks y (Some begin) p e h =
    let found = bind_some (part begin) (λ x. go (parts ++ x.0 ∷ []) x.1) y h in
    goes (parts ++ found.0.0 ∷ []) found.0.1 y (more parts toks begin found.0 p e found.1) found.2

others_keep : (P : List Syntax → Type 0) (start : Start) (part : List Lexeme → Option Found) → ((parts : List Syntax) (toks begin : List Lexeme) (x : Found) → P parts → another start (last_is_open parts) toks ≡ some_of begin → part begin ≡ Some x → P (parts ++ x.0 ∷ [])) → (n : ℕ) (parts : List Syntax) (toks : List Lexeme) (y : Row) → P parts → others part start n parts toks ≡ Some y → P y.0
unfolding others
others_keep P start part more zero parts toks y p h = subst (λ (z : Row). P z.0) (some_is (parts, toks) y h) p
others_keep P start part more (suc n) parts toks y p h =
    others_keep_on P start part (others part start n) more (others_keep P start part more n) parts toks y (another start (last_is_open parts) toks) p refl h

-- ---- only the last part is open

shut_push : (ts : List Syntax) (t : Syntax) → shut (syntaxes ts) ≡ true → last_is_open ts ≡ false → shut (syntaxes (ts ++ t ∷ [])) ≡ true
unfolding shut
shut_push [] t h o = refl
shut_push (u ∷ []) t h o = rw o refl
shut_push (u ∷ v ∷ ts) t h o =
    let both = both_true (not (is_open u)) (shut (syntaxes (v ∷ ts))) h in
    rw (both.0, shut_push (v ∷ ts) t both.1 o) refl

takes_push : (m : Fields) (ts : List Syntax) (t : Syntax) → takes_fields m (syntaxes ts) ≡ true → takes_field m t ≡ true → takes_fields m (syntaxes (ts ++ t ∷ [])) ≡ true
unfolding takes_fields
takes_push m [] t h o = rw o refl
takes_push m (u ∷ ts) t h o =
    let both = both_true (takes_field m u) (takes_fields m (syntaxes ts)) h in
    rw (both.0, takes_push m ts t both.1 o) refl

-- a field that begins so is one that the name takes
takes_by : (m : Fields) (t : Syntax) (toks rest : List Lexeme) → begins_field m toks ≡ true → toks ≡ flat t ++ rest → takes_field m t ≡ true
unfolding takes_field begins_field flat rule
takes_by fields.Any t toks rest b s = refl
takes_by fields.None t toks rest b s = absurd cc
takes_by fields.Undotted (Node forms.Dotted ts) toks rest b s =
    let begins : toks ≡ Sign symbols.Dot ∷ (spell ts (pieces.Part places.Outside kinds.Value ∷ []) ++ rest) = s ∙ ap (λ (xs : List Lexeme). xs ++ rest) (spell_sign ts (signs.Symbol symbols.Dot) (pieces.Part places.Outside kinds.Value ∷ [])) in
    no_dot (spell ts (pieces.Part places.Outside kinds.Value ∷ []) ++ rest) (subst (λ (xs : List Lexeme). begins_field fields.Undotted xs ≡ true) begins b)
  where
    no_dot : (xs : List Lexeme) → begins_field fields.Undotted (Sign symbols.Dot ∷ xs) ≡ true → false ≡ true
    no_dot xs e = e
takes_by fields.Undotted t toks rest b s = refl

-- the fields of a name
abbrev IsEvent : Fields → List Syntax → Type 0
IsEvent m [] = ⊥
IsEvent m (n ∷ ts) = (shut (syntaxes (n ∷ ts)) ≡ true) × (takes_fields m (syntaxes ts) ≡ true)

event_push : (m : Fields) (ts : List Syntax) (t : Syntax) → IsEvent m ts → last_is_open ts ≡ false → takes_field m t ≡ true → IsEvent m (ts ++ t ∷ [])
event_push m [] t h o k = absurd h
event_push m (n ∷ ts) t h o k = (shut_push (n ∷ ts) t h.0 o, takes_push m ts t h.1 k)

field_another : (m : Fields) (open_end : Bool) (toks begin : List Lexeme) → another (starts.Field m) open_end toks ≡ some_of begin → (open_end ≡ false) × (begins_field m begin ≡ true)
unfolding another
field_another m open_end toks begin e =
    let test = guard_some (not open_end && begins_field m toks) (some_of toks) begin e in
    let both = both_true (not open_end) (begins_field m toks) test.0 in
    (not_true open_end both.0, subst (λ (xs : List Lexeme). begins_field m xs ≡ true) (some_is toks begin test.1) both.1)

dot_another : (open_end : Bool) (toks begin : List Lexeme) → another starts.Dot open_end toks ≡ some_of begin → open_end ≡ false
unfolding another
dot_another true toks begin e = absurd cc
dot_another false toks begin e = refl

event_stands : (read : Reader) (opening : Bool) (b r : ℕ) → IsSound b r read → (m : Fields) (toks : List Lexeme) (z : Row) → row read opening (pieces.Name ∷ pieces.Others places.Outside kinds.Field (starts.Field m) ∷ []) [] toks ≡ Some z → IsEvent m z.0
unfolding row step shut takes_fields is_open
event_stands read opening b r sound m toks z e =
    let first = bind_some (name_at toks >>= put []) (λ y. others (read places.Outside kinds.Field) (starts.Field m) (length y.1) y.0 y.1 >>= λ y. some_row y.0 y.1) z e in
    let found = bind_some (name_at toks) (put []) first.0 first.1 in
    let name = name_is toks found.0 found.1 in
    let y = first.0 in
    let last = bind_some (others (read places.Outside kinds.Field) (starts.Field m) (length y.1) y.0 y.1) (λ y. some_row y.0 y.1) z first.2 in
    let one : Called name.0 ∷ [] ≡ y.0 = ap (λ (x : Found). x.0 ∷ []) name.3 ∙ ap (λ (y : Row). y.0) (some_is (found.0.0 ∷ [], found.0.1) y found.2) in
    subst (λ (z : Row). IsEvent m z.0) (some_is (last.0.0, last.0.1) z last.2)
    (others_keep (IsEvent m) (starts.Field m) (read places.Outside kinds.Field) more (length y.1) y.0 y.1 last.0 (subst (IsEvent m) one (refl, refl)) last.1)
  where
    more : (parts : List Syntax) (toks begin : List Lexeme) (x : Found) → IsEvent m parts → another (starts.Field m) (last_is_open parts) toks ≡ some_of begin → read places.Outside kinds.Field begin ≡ Some x → IsEvent m (parts ++ x.0 ∷ [])
    more parts toks begin x p e h =
        let begins = field_another m (last_is_open parts) toks begin e in
        event_push m parts x.0 p begins.0 (takes_by m x.0 begin x.1 begins.1 (sound places.Outside kinds.Field begin x h).spelled)

sets_stand : (read : Reader) (opening : Bool) (toks : List Lexeme) (z : Row) → row read opening (pieces.Part places.Outside (kinds.Atom fields.Undotted) ∷ pieces.Others places.Outside (kinds.Atom fields.Undotted) starts.Dot ∷ []) [] toks ≡ Some z → shut (syntaxes z.0) ≡ true
unfolding row step shut
sets_stand read opening toks z e =
    let part = read places.Outside (kinds.Atom fields.Undotted) in
    let first = bind_some (part toks >>= put []) (λ y. others part starts.Dot (length y.1) y.0 y.1 >>= λ y. some_row y.0 y.1) z e in
    let found = bind_some (part toks) (put []) first.0 first.1 in
    let y = first.0 in
    let last = bind_some (others part starts.Dot (length y.1) y.0 y.1) (λ y. some_row y.0 y.1) z first.2 in
    let one : found.0.0 ∷ [] ≡ y.0 = ap (λ (y : Row). y.0) (some_is (found.0.0 ∷ [], found.0.1) y found.2) in
    subst (λ (z : Row). shut (syntaxes z.0) ≡ true) (some_is (last.0.0, last.0.1) z last.2)
    (others_keep (λ ts. shut (syntaxes ts) ≡ true) starts.Dot part more (length y.1) y.0 y.1 last.0 (subst (λ (ts : List Syntax). shut (syntaxes ts) ≡ true) one refl) last.1)
  where
    more : (parts : List Syntax) (toks begin : List Lexeme) (x : Found) → shut (syntaxes parts) ≡ true → another starts.Dot (last_is_open parts) toks ≡ some_of begin → read places.Outside (kinds.Atom fields.Undotted) begin ≡ Some x → shut (syntaxes (parts ++ x.0 ∷ [])) ≡ true
    more parts toks begin x p e h = shut_push parts x.0 p (dot_another (last_is_open parts) toks begin e)

abbrev Stands : Fields → Form → Syntaxes → Type 0
Stands m f ts = (may_stand f ts ≡ true) × (takes m (Node f ts) ≡ true)

event_is : (m : Fields) (ts : List Syntax) → IsEvent m ts → Stands m forms.Event (syntaxes ts)
unfolding may_stand takes
event_is m [] h = absurd h
event_is m (n ∷ ts) h = h

-- a name takes the fields that are asked for, and only the last of them may be open
stands : (read : Reader) (opening : Bool) (b r : ℕ) → IsSound b r read → (m : Fields) (f : Form) (toks : List Lexeme) (z : Row) → row read opening (front f ++ back m f) [] toks ≡ Some z → Stands m f (syntaxes z.0)
unfolding front back rule may_stand takes
stands read opening b r sound m forms.Event toks z e = event_is m z.0 (event_stands read opening b r sound m toks z e)
stands read opening b r sound m forms.FieldSets toks z e = (sets_stand read opening toks z e, refl)
stands read opening b r sound m f toks z e = (refl, refl)

-- ---- nodes

-- a node that was read by the rule of its form
pub record Noded (b r : ℕ) (m : Fields) (f : Form) (toks : List Lexeme) (x : Found) : Type 0 where
  pub behind : List Lexeme
  pub parts : Syntaxes
  pub is : x.0 ≡ Node (turned f behind) parts
  pub stands : may_stand (turned f behind) parts ≡ true
  pub takes : takes m (Node (turned f behind) parts) ≡ true
  pub fits : FitAll parts (rule (turned f behind))
  pub high : highest parts ≤ r
  pub nested : nests parts (rule (turned f behind)) ≤ b
  pub spelled : toks ≡ spell parts (rule (turned f behind)) ++ x.1

noded : (read : Reader) (opening : Bool) (b r : ℕ) → (opening ≡ true → 0 < b) → IsSound b r read → (m : Fields) (f : Form) (toks : List Lexeme) (y z : Row) → is_plain f ≡ true → row read opening (front f) [] toks ≡ Some y → row read opening (back m (turned f y.1)) y.0 y.1 ≡ Some z → Noded b r m f toks (Node (turned f y.1) (syntaxes z.0), z.1)
noded read opening b r positive sound m f toks y z p e h =
    let g = turned f y.1 in
    let both : row read opening (front g ++ back m g) [] toks ≡ Some z = rows read opening (front g) (back m g) toks y z (ap (λ (ps : List Piece). row read opening ps [] toks) (front_turned f y.1) ∙ e) h in
    let stood = stands read opening b r sound m g toks z both in
    let w = rowed_rule b r m g toks z (plain_turned f y.1 ∙ p) (row_sound read opening b r positive sound (front g ++ back m g) (tidy_rule m g) [] toks z both) in
    let all : w.new ≡ z.0 = sym w.all in
    record {
      behind = y.1;
      parts = syntaxes z.0;
      is = refl;
      stands = stood.0;
      takes = stood.1;
      fits = subst (λ (ts : List Syntax). FitAll (syntaxes ts) (rule g)) all w.fits;
      high = subst (λ (ts : List Syntax). highest (syntaxes ts) ≤ r) all w.high;
      nested = subst (λ (ts : List Syntax). nests (syntaxes ts) (rule g) ≤ b) all w.nested;
      spelled = subst (λ (ts : List Syntax). toks ≡ spell (syntaxes ts) (rule g) ++ z.1) all w.spelled;
    }

pub node_sound : (read : Reader) (opening : Bool) (b r : ℕ) → (opening ≡ true → 0 < b) → IsSound b r read → (m : Fields) (f : Form) (toks : List Lexeme) (x : Found) → is_plain f ≡ true → node read opening m f toks ≡ Some x → Noded b r m f toks x
unfolding node
node_sound read opening b r positive sound m f toks x p e =
    let first = bind_some (row read opening (front f) [] toks) (λ y. node_on read opening m (turned f y.1) y) x e in
    let y = first.0 in
    let last = bind_some (row read opening (back m (turned f y.1)) y.0 y.1) (node_of (turned f y.1)) x first.2 in
    subst (Noded b r m f toks) (some_is (Node (turned f y.1) (syntaxes last.0.0), last.0.1) x last.2)
    (noded read opening b r positive sound m f toks y last.0 p first.1 last.1)
