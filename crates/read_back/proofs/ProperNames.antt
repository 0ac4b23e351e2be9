-- The names that a text declares are names of the language and no reserved words.
use Rattle.std.proofs.Common.{◌≡◌, ℕ, List, [], ◌∷◌, ◌++◌, map, drop, Some, sym, subst}
use Rattle.tokens.specs.Lexeme.{Lexeme, Name as NameToken, Number, Kept, Sign}
use Rattle.tokens.specs.Text.{Spells, Part, Blank, Line, Assertion, Block, Token, AreParts, tokens_of, HasTokens}
use Rattle.tokens.proofs.Words.{none_reserved}
use Rattle.syntax.specs.declared.form.Form.{Form}
use Rattle.syntax.specs.declared.form.Form.TheVariants as forms
use Rattle.syntax.specs.Grammar.{Syntax, Called, Numeral, Node, Syntaxes, NoSyntax, MoreSyntax, flat, spell, spell_part}
use Rattle.syntax.specs.Rules.{rule}
use Rattle.syntax.specs.Script.{HasTree}
use Rattle.values.specs.Values.{◌>>=◌, Name}
use Rattle.values.specs.Names.{Entry, Meaning, channel, datatype, constant_name, parametric, names_of, listed_names, field_sets, entries_of, declared_by, declared_by_all, declared}
use Rattle.declared_names.proofs.Chains.{bind_some, some_same}
use Rattle.read_back.proofs.Scanned.{IsProper, AllProper}

-- ---- tokens

abbrev TokenProper : Lexeme → Type 0
TokenProper (NameToken n) = IsProper n
TokenProper (Number n) = Unit {0}
TokenProper (Kept k) = Unit {0}
TokenProper (Sign s) = Unit {0}

abbrev TokensProper : List Lexeme → Type 0
TokensProper [] = Unit {0}
TokensProper (x ∷ xs) = TokenProper x × TokensProper xs

token_proper : (w : List ℕ) (x : Lexeme) → Spells w x → TokenProper x
token_proper w (NameToken n) h = subst IsProper (sym h.0) (h.1, none_reserved w h.2)
token_proper w (Number n) h = tt
token_proper w (Kept k) h = tt
token_proper w (Sign s) h = tt

parts_proper : (bytes : List ℕ) (ps : List Part) → AreParts bytes ps → TokensProper (tokens_of ps)
parts_proper bytes [] h = tt
parts_proper bytes (Blank c ∷ ps) h = parts_proper h.0 ps h.3
parts_proper bytes (Line body ∷ ps) h = parts_proper h.0 ps h.3
parts_proper bytes (Assertion body ∷ ps) h = parts_proper h.0 ps h.3
parts_proper bytes (Block k ∷ ps) h = parts_proper h.0 ps h.3
parts_proper bytes (Token x w ∷ ps) h = (token_proper w x h.2.0, parts_proper h.0 ps h.3)

tokens_proper : (text : List ℕ) (ws : List Lexeme) → HasTokens text ws → TokensProper ws
tokens_proper text ws h = subst TokensProper h.1.are (parts_proper text h.1.parts h.1.spelled)

left_proper : (xs ys : List Lexeme) → TokensProper (xs ++ ys) → TokensProper xs
left_proper [] ys h = tt
left_proper (x ∷ xs) ys h = (h.0, left_proper xs ys h.1)

right_proper : (xs ys : List Lexeme) → TokensProper (xs ++ ys) → TokensProper ys
right_proper [] ys h = h
right_proper (x ∷ xs) ys h = right_proper xs ys h.1

-- ---- names

-- after the first of a list of channels
later_names : (ts : Syntaxes) (ns : List Name) → names_of ts ≡ Some ns → TokensProper (spell ts (drop 1 (rule forms.Names))) → AllProper ns
unfolding names_of flat spell spell_part rule
later_names NoSyntax ns h k = subst AllProper (some_same h) tt
later_names (MoreSyntax (Called n) ts) ns h k =
    let (ms, a, b) = bind_some (names_of ts) (λ ms. Some (n ∷ ms)) ns h in
    subst AllProper (some_same b) (k.1.0, later_names ts ms a k.1.1)
later_names (MoreSyntax (Numeral n) ts) ns h k = absurd cc
later_names (MoreSyntax (Node f us) ts) ns h k = absurd cc

-- after the first of the constants
later_constants : (ts : Syntaxes) (ns : List Name) → names_of ts ≡ Some ns → TokensProper (spell ts (drop 1 (rule forms.Constants))) → AllProper ns
unfolding names_of flat spell spell_part rule
later_constants NoSyntax ns h k = subst AllProper (some_same h) tt
later_constants (MoreSyntax (Called n) ts) ns h k =
    let (ms, a, b) = bind_some (names_of ts) (λ ms. Some (n ∷ ms)) ns h in
    subst AllProper (some_same b) (k.1.0, later_constants ts ms a k.1.1)
later_constants (MoreSyntax (Numeral n) ts) ns h k = absurd cc
later_constants (MoreSyntax (Node f us) ts) ns h k = absurd cc

all_names : (ts : Syntaxes) (ns : List Name) → names_of ts ≡ Some ns → TokensProper (spell ts (rule forms.Names)) → AllProper ns
unfolding names_of flat spell spell_part rule
all_names NoSyntax ns h k = subst AllProper (some_same h) tt
all_names (MoreSyntax (Called n) ts) ns h k =
    let (ms, a, b) = bind_some (names_of ts) (λ ms. Some (n ∷ ms)) ns h in
    subst AllProper (some_same b) (k.0, later_names ts ms a k.1)
all_names (MoreSyntax (Numeral n) ts) ns h k = absurd cc
all_names (MoreSyntax (Node f us) ts) ns h k = absurd cc

all_constants : (ts : Syntaxes) (ns : List Name) → names_of ts ≡ Some ns → TokensProper (spell ts (rule forms.Constants)) → AllProper ns
unfolding names_of flat spell spell_part rule
all_constants NoSyntax ns h k = subst AllProper (some_same h) tt
all_constants (MoreSyntax (Called n) ts) ns h k =
    let (ms, a, b) = bind_some (names_of ts) (λ ms. Some (n ∷ ms)) ns h in
    subst AllProper (some_same b) (k.0, later_constants ts ms a k.1)
all_constants (MoreSyntax (Numeral n) ts) ns h k = absurd cc
all_constants (MoreSyntax (Node f us) ts) ns h k = absurd cc

listed_proper : (t : Syntax) (ns : List Name) → listed_names t ≡ Some ns → TokensProper (flat t) → AllProper ns
unfolding listed_names flat
listed_proper (Called n) ns h k = absurd cc
listed_proper (Numeral n) ns h k = absurd cc
listed_proper (Node forms.Names ts) ns h k = all_names ts ns h k
listed_proper (Node forms.Constants ts) ns h k = all_constants ts ns h k
listed_proper (Node f ts) ns h k = absurd cc

-- ---- entries

abbrev pub EntriesProper : List Entry → Type 0
EntriesProper [] = Unit {0}
EntriesProper (e ∷ es) = IsProper e.0 × EntriesProper es

both_proper : (es fs : List Entry) → EntriesProper es → EntriesProper fs → EntriesProper (es ++ fs)
both_proper [] fs h k = k
both_proper (e ∷ es) fs h k = (h.0, both_proper es fs h.1 k)

named_proper : (m : Meaning) (ns : List Name) → AllProper ns → EntriesProper (map (λ n. (n, m)) ns)
named_proper m [] h = tt
named_proper m (n ∷ ns) h = (h.0, named_proper m ns h.1)

form_proper : (f : Form) (ts : Syntaxes) (es : List Entry) → entries_of f ts ≡ Some es → TokensProper (flat (Node f ts)) → EntriesProper es
unfolding entries_of flat spell spell_part rule
form_proper forms.Channels (MoreSyntax t NoSyntax) es h k =
    let (ns, a, b) = bind_some (listed_names t) (λ ns. Some (map (λ n. (n, channel NoSyntax)) ns)) es h in
    subst EntriesProper (some_same b) (named_proper (channel NoSyntax) ns (listed_proper t ns a (left_proper (flat t) (spell NoSyntax []) k.1)))
form_proper forms.ChannelsWithFields (MoreSyntax t (MoreSyntax u NoSyntax)) es h k =
    let (ns, a, b) = bind_some (listed_names t) (λ ns. field_sets u >>= λ sets. Some (map (λ n. (n, channel sets)) ns)) es h in
    let (sets, c, d) = bind_some (field_sets u) (λ sets. Some (map (λ n. (n, channel sets)) ns)) es b in
    subst EntriesProper (some_same d) (named_proper (channel sets) ns (listed_proper t ns a (left_proper (flat t) (spell (MoreSyntax u NoSyntax) (drop 2 (rule forms.ChannelsWithFields))) k.1)))
form_proper forms.Datatype (MoreSyntax (Called m) (MoreSyntax t NoSyntax)) es h k =
    let (ns, a, b) = bind_some (listed_names t) (λ ns. Some ((m, datatype ns) ∷ map (λ c. (c, constant_name)) ns)) es h in
    subst EntriesProper (some_same b) (k.1.0, named_proper constant_name ns (listed_proper t ns a (left_proper (flat t) (spell NoSyntax []) k.1.1.1)))
form_proper forms.Definition (MoreSyntax (Called m) (MoreSyntax t NoSyntax)) es h k = subst EntriesProper (some_same h) (k.0, tt)
form_proper forms.DefinitionWithParameters (MoreSyntax (Called m) (MoreSyntax t (MoreSyntax u NoSyntax))) es h k =
    let (xs, a, b) = bind_some (listed_names t) (λ xs. Some ((m, parametric xs u) ∷ [])) es h in
    subst EntriesProper (some_same b) (k.0, tt)
form_proper f ts es h k = absurd cc

by_proper : (t : Syntax) (es : List Entry) → declared_by t ≡ Some es → TokensProper (flat t) → EntriesProper es
unfolding declared_by
by_proper (Called n) es h k = absurd cc
by_proper (Numeral n) es h k = absurd cc
by_proper (Node f ts) es h k = form_proper f ts es h k

all_proper : (ts : Syntaxes) (es : List Entry) → declared_by_all ts ≡ Some es → TokensProper (spell ts (rule forms.Script)) → EntriesProper es
unfolding declared_by_all spell spell_part rule
all_proper NoSyntax es h k = subst EntriesProper (some_same h) tt
all_proper (MoreSyntax t ts) es h k =
    let (fs, a, b) = bind_some (declared_by t) (λ es. declared_by_all ts >>= λ fs. Some (es ++ fs)) es h in
    let (gs, c, d) = bind_some (declared_by_all ts) (λ gs. Some (fs ++ gs)) es b in
    subst EntriesProper (some_same d) (both_proper fs gs (by_proper t fs a (left_proper (flat t) (spell ts (rule forms.Script)) k)) (all_proper ts gs c (right_proper (flat t) (spell ts (rule forms.Script)) k)))

pub declared_proper : (text : List ℕ) (t : Syntax) (es : List Entry) → HasTree text t → declared t ≡ Some es → EntriesProper es
unfolding declared flat
declared_proper text (Called n) es h e = absurd cc
declared_proper text (Numeral n) es h e = absurd cc
declared_proper text (Node forms.Script ts) es h e = all_proper ts es e (subst TokensProper h.is.spelled (tokens_proper text h.tokens h.read))
declared_proper text (Node f ts) es h e = absurd cc
