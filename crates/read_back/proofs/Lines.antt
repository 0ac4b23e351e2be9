-- The lines of a printed script have the tokens of their trees.
use Rattle.std.proofs.Common.{◌≡◌, ℕ, zero, suc, ◌+◌, ◌<◌, ◌≤◌, pos, negsuc, List, [], ◌∷◌, ◌++◌, map, length, drop, replicate, false, Some, None, refl, sym, ap, ◌∙◌, subst, arith, append_assoc, append-nil}
use Rattle.std.specs.Prelude.{◌==◌, codes, decimal}
use Rattle.std.specs.List.{flat_map, range_with_len}
use Rattle.alphabet.specs.Channels.{FieldValue, number, constant, Values, Channel, value_text, event_count}
use Rattle.alphabet.specs.Elements.{In, here, there}
use Rattle.term.specs.Proc.{Proc, bodies_of}
use Rattle.term.specs.Specs.{Specified}
use Rattle.tokens.specs.declared.symbol.Symbol.TheVariants as symbols
use Rattle.tokens.specs.declared.keyword.Keyword.TheVariants as keywords
use Rattle.tokens.specs.Lexeme.{Lexeme, Name as NameToken, Kept, Sign}
use Rattle.tokens.specs.Spelling.{keyword_text, refused_word_text}
use Rattle.tokens.specs.Text.{IsName, Holds, HasTokens}
use Rattle.tokens.specs.Scanning.{reserved_of, named as named_word}
use Rattle.syntax.specs.declared.form.Form.TheVariants as forms
use Rattle.syntax.specs.Grammar.{Syntax, Called, flat, spell, spell_part, spell_signs}
use Rattle.syntax.specs.Rules.{rule}
use Rattle.printing.specs.Names.{Name, constants, primed, datatype_name, datatype_primes}
use Rattle.printing.specs.Printed.{joined, gap, field_text, fields_text, channel_line, datatype_line, reference, process_text, body_line, body_lines, printed}
use Rattle.read_back.proofs.Trees.{node, phrases, member_tree, values_tree, channel_tree_of, channel_tree, called_trees, datatype_trees, process_tree, body_tree, body_trees, printed_primes, script_tree}
use Rattle.read_back.proofs.Readable.{IsWritten}
use Rattle.read_back.proofs.Scanned.{nothing_read, token_read, blank_read, other_byte, letter_high, digit_low, first_digit, Ends, IsProper, AllProper, name_read, proper_read, close_brace_at, colon_at, definition_at, bar_at, dot_brace_at, brace_at}
use Rattle.read_back.proofs.Texts.{Reads, Any, same_read, both_read, IsShown, AllShown, value_read, EachRead, behind_tokens, joined_read}
use Rattle.read_back.proofs.Processes.{spaced, empty_read, comma_read, all_primes, proper_reference, IsShownAlphabet, process_read}

-- ---- sets of values

-- a brace may open before this
abbrev Opens : List ℕ → Type 0
Opens text = (c : ℕ) × (rest : List ℕ) × (text ≡ c ∷ rest) × ((c == 45) ≡ false) × ((124 == c) ≡ false)

begins_so : (v : FieldValue) (vs : Values) → IsShown v → Opens (gap (v ∷ vs) ++ value_text v)
begins_so (number (pos n)) vs h =
    let d = first_digit n h in
    let low = digit_low d.0 d.3 in
    (d.0, d.1, d.2, other_byte d.0 45 (λ x. omega (arith, low.0, x)), other_byte 124 d.0 (λ x. omega (arith, low.1, x)))
begins_so (number (negsuc n)) vs h = (32, 45 ∷ decimal (suc n), refl, refl, refl)
begins_so (constant n) vs h =
    let high = letter_high h.0.first h.0.letter in
    (h.0.first, h.0.body ++ h.0.primes, h.0.spelled, other_byte h.0.first 45 (λ x. omega (arith, high.0, x)), other_byte 124 h.0.first (λ x. omega (arith, high.1, x)))

gap_read : (vs : Values) (rest : List ℕ) (ws : List Lexeme) → Holds rest ws → Holds (gap vs ++ rest) ws
gap_read [] rest ws r = r
gap_read (constant n ∷ vs) rest ws r = r
gap_read (number (pos n) ∷ vs) rest ws r = r
gap_read (number (negsuc n) ∷ vs) rest ws r = blank_read 32 rest ws refl r

abbrev value_tokens : FieldValue → List Lexeme
value_tokens v = flat (member_tree v)

member_read : (v : FieldValue) → IsShown v → Reads Ends (value_text v) (value_tokens v)
unfolding flat spell spell_part spell_signs rule
member_read (number (pos n)) h = value_read (number (pos n)) h
member_read (number (negsuc n)) h = value_read (number (negsuc n)) h
member_read (constant n) h = value_read (constant n) h

each_value : (vs : Values) → AllShown vs → EachRead (codes ", ") (Sign symbols.Comma) comma_read (λ rest. (refl, refl)) value_text value_tokens vs
each_value [] h = tt
each_value (v ∷ vs) h = (member_read v h.0, each_value vs h.1)

abbrev behind_values : Values → List Lexeme
behind_values vs = behind_tokens (codes ", ") (Sign symbols.Comma) comma_read (λ rest. (refl, refl)) value_text value_tokens vs

others_flat : (vs : Values) → spell (phrases (map member_tree vs)) (drop 2 (rule forms.Set)) ≡ behind_values vs ++ (Sign symbols.CloseBrace ∷ [])
unfolding spell spell_part spell_signs rule
others_flat [] = refl
others_flat (v ∷ vs) = ap (λ ws. Sign symbols.Comma ∷ (value_tokens v ++ ws)) (others_flat vs) ∙ ap (λ ws. Sign symbols.Comma ∷ ws) (sym (append_assoc (value_tokens v) (behind_values vs) (Sign symbols.CloseBrace ∷ [])))

set_flat : (v : FieldValue) (vs : Values) → flat (values_tree (v ∷ vs)) ≡ Sign symbols.OpenBrace ∷ ((value_tokens v ++ behind_values vs) ++ (Sign symbols.CloseBrace ∷ []))
unfolding flat spell spell_part rule
set_flat v vs = ap (λ ws. Sign symbols.OpenBrace ∷ (value_tokens v ++ ws)) (others_flat vs) ∙ ap (λ ws. Sign symbols.OpenBrace ∷ ws) (sym (append_assoc (value_tokens v) (behind_values vs) (Sign symbols.CloseBrace ∷ [])))

field_read : (vs : Values) → AllShown vs → Reads Any (field_text vs) (flat (values_tree vs))
field_read [] h rest ws u r = empty_read rest ws u r
field_read (v ∷ vs) h rest ws u r =
    let b = begins_so v vs h.0 in
    let tail = flat_map (λ u. codes ", " ++ u) (map value_text vs) in
    let all = joined (codes ", ") (map value_text (v ∷ vs)) in
    let tokens = value_tokens v ++ behind_values vs in
    let last = joined_read (codes ", ") (Sign symbols.Comma) comma_read (λ rest. (refl, refl)) value_text value_tokens v vs (each_value (v ∷ vs) h) (125 ∷ rest) (Sign symbols.CloseBrace ∷ ws) (refl, refl) (token_read (125 ∷ rest) rest (Sign symbols.CloseBrace) ws (close_brace_at rest) r) in
    let inner = gap_read (v ∷ vs) (all ++ (125 ∷ rest)) (tokens ++ (Sign symbols.CloseBrace ∷ ws)) last in
    let z : gap (v ∷ vs) ++ (all ++ (125 ∷ rest)) ≡ b.0 ∷ (b.1 ++ (tail ++ (125 ∷ rest))) =
    ap (λ t. gap (v ∷ vs) ++ t) (append_assoc (value_text v) tail (125 ∷ rest)) ∙ sym (append_assoc (gap (v ∷ vs)) (value_text v) (tail ++ (125 ∷ rest))) ∙ ap (λ t. t ++ (tail ++ (125 ∷ rest))) b.2 in
    same_read (ap (λ t. 123 ∷ t) (append_assoc (gap (v ∷ vs) ++ all) (125 ∷ []) rest ∙ append_assoc (gap (v ∷ vs)) all (125 ∷ rest) ∙ z))
    (ap (λ ts. ts ++ ws) (set_flat v vs) ∙ ap (λ t. Sign symbols.OpenBrace ∷ t) (append_assoc tokens (Sign symbols.CloseBrace ∷ []) ws))
    (token_read (123 ∷ b.0 ∷ (b.1 ++ (tail ++ (125 ∷ rest)))) (b.0 ∷ (b.1 ++ (tail ++ (125 ∷ rest)))) (Sign symbols.OpenBrace) (tokens ++ (Sign symbols.CloseBrace ∷ ws)) (brace_at (b.1 ++ (tail ++ (125 ∷ rest))) b.0 b.3 b.4)
    (subst (λ t. Holds t (tokens ++ (Sign symbols.CloseBrace ∷ ws))) z inner))

-- ---- fields

abbrev AllFields : List Values → Type 0
AllFields [] = Unit {0}
AllFields (vs ∷ fields) = AllShown vs × AllFields fields

abbrev field_tokens : List Values → List Lexeme
field_tokens [] = []
field_tokens (vs ∷ fields) = (Sign symbols.Dot ∷ flat (values_tree vs)) ++ field_tokens fields

dot_read : (vs : Values) → AllShown vs → Reads Any (46 ∷ field_text vs) (Sign symbols.Dot ∷ flat (values_tree vs))
dot_read vs h rest ws u r =
    token_read (46 ∷ (field_text vs ++ rest)) (field_text vs ++ rest) (Sign symbols.Dot) (flat (values_tree vs) ++ ws) (dot_brace_at ((gap vs ++ joined (codes ", ") (map value_text vs) ++ codes "}") ++ rest)) (field_read vs h rest ws tt r)

fields_read : (fields : List Values) → AllFields fields → Reads Any (flat_map (λ u. codes "." ++ u) (map field_text fields)) (field_tokens fields)
fields_read [] h = λ rest ws u r. r
fields_read (vs ∷ fields) h = both_read Any Any (46 ∷ field_text vs) (flat_map (λ u. codes "." ++ u) (map field_text fields)) (Sign symbols.Dot ∷ flat (values_tree vs)) (field_tokens fields) (dot_read vs h.0) (fields_read fields h.1) (λ rest u. tt)

fields_flat : (fields : List Values) → spell (phrases (map values_tree fields)) (drop 1 (rule forms.FieldSets)) ≡ field_tokens fields
unfolding spell spell_part spell_signs rule
fields_flat [] = refl
fields_flat (vs ∷ fields) = ap (λ ws. Sign symbols.Dot ∷ (flat (values_tree vs) ++ ws)) (fields_flat fields)

sets_flat : (vs : Values) (fields : List Values) → flat (node forms.FieldSets (map values_tree (vs ∷ fields))) ≡ flat (values_tree vs) ++ field_tokens fields
unfolding flat spell spell_part rule
sets_flat vs fields = ap (λ ws. flat (values_tree vs) ++ ws) (fields_flat fields)

sets_read : (vs : Values) (fields : List Values) → AllFields (vs ∷ fields) → Reads Any (joined (codes ".") (map field_text (vs ∷ fields))) (flat (node forms.FieldSets (map values_tree (vs ∷ fields))))
sets_read vs fields h =
    subst (λ ts. Reads Any (joined (codes ".") (map field_text (vs ∷ fields))) ts) (sym (sets_flat vs fields))
    (both_read Any Any (field_text vs) (flat_map (λ u. codes "." ++ u) (map field_text fields)) (flat (values_tree vs)) (field_tokens fields) (field_read vs h.0) (fields_read fields h.1) (λ rest u. tt))

-- ---- lines

kept_channel : (rest : List ℕ) → named_word (reserved_of (codes "channel")) (codes "channel") rest ≡ Some (Some (Kept keywords.Channel), rest)
unfolding named_word keyword_text refused_word_text
kept_channel rest = refl

kept_datatype : (rest : List ℕ) → named_word (reserved_of (codes "datatype")) (codes "datatype") rest ≡ Some (Some (Kept keywords.Datatype), rest)
unfolding named_word keyword_text refused_word_text
kept_datatype rest = refl

channel_word_read : Reads Any (codes "channel ") (Kept keywords.Channel ∷ [])
channel_word_read rest ws u r =
    let is : IsName (codes "channel") = record { first = 99; body = codes "hannel"; primes = []; spelled = refl; letter = refl; bytes = (refl, (refl, (refl, (refl, (refl, (refl, tt)))))); ends = tt } in
    token_read (codes "channel" ++ (32 ∷ rest)) (32 ∷ rest) (Kept keywords.Channel) ws (name_read (codes "channel") (32 ∷ rest) is (refl, refl) ∙ kept_channel (32 ∷ rest)) (blank_read 32 rest ws refl r)

datatype_word_read : Reads Any (codes "datatype ") (Kept keywords.Datatype ∷ [])
datatype_word_read rest ws u r =
    let is : IsName (codes "datatype") = record { first = 100; body = codes "atatype"; primes = []; spelled = refl; letter = refl; bytes = (refl, (refl, (refl, (refl, (refl, (refl, (refl, tt))))))); ends = tt } in
    token_read (codes "datatype" ++ (32 ∷ rest)) (32 ∷ rest) (Kept keywords.Datatype) ws (name_read (codes "datatype") (32 ∷ rest) is (refl, refl) ∙ kept_datatype (32 ∷ rest)) (blank_read 32 rest ws refl r)

definition_read : Reads Any (codes " = ") (Sign symbols.Definition ∷ [])
definition_read = spaced (Sign symbols.Definition) (codes "=") definition_at

bar_read : Reads Any (codes " | ") (Sign symbols.Bar ∷ [])
bar_read = spaced (Sign symbols.Bar) (codes "|") bar_at

colon_read : Reads Any (codes " : ") (Sign symbols.Colon ∷ [])
colon_read = spaced (Sign symbols.Colon) (codes ":") (λ rest. colon_at (32 ∷ rest))

line_read : Reads Any (codes "\n") []
line_read rest ws u r = blank_read 10 rest ws refl r

name_is_read : (n : Name) → IsProper n → Reads Ends n (NameToken n ∷ [])
name_is_read n h rest ws e r = proper_read n rest ws h e r

-- a line without its end, and its end
ended_read : (Q : List ℕ → Type 0) (text : List ℕ) (tokens : List Lexeme) → Reads Q text tokens → ((rest : List ℕ) → Q (10 ∷ rest)) → Reads Any (text ++ codes "\n") tokens
ended_read Q text tokens h q = subst (λ ts. Reads Any (text ++ codes "\n") ts) (append-nil tokens) (both_read Q Any text (codes "\n") tokens [] h line_read (λ rest u. q rest))

channel_read : (n : Name) (fields : List Values) → IsProper n → AllFields fields → Reads Any (codes "channel " ++ n ++ fields_text fields ++ codes "\n") (flat (channel_tree_of n fields))
unfolding flat spell spell_part spell_signs rule
channel_read n [] h k =
    ended_read Ends ((codes "channel " ++ n) ++ []) (Kept keywords.Channel ∷ NameToken n ∷ [])
    (subst (λ t. Reads Ends t (Kept keywords.Channel ∷ NameToken n ∷ [])) (sym (append-nil (codes "channel " ++ n)))
    (both_read Any Ends (codes "channel ") n (Kept keywords.Channel ∷ []) (NameToken n ∷ []) channel_word_read (name_is_read n h) (λ rest e. tt))) (λ rest. (refl, refl))
channel_read n (vs ∷ fields) h k =
    let sets = flat (node forms.FieldSets (map values_tree (vs ∷ fields))) in
    ended_read Any ((codes "channel " ++ n) ++ fields_text (vs ∷ fields)) (Kept keywords.Channel ∷ NameToken n ∷ Sign symbols.Colon ∷ (sets ++ []))
    (subst (λ ts. Reads Any ((codes "channel " ++ n) ++ fields_text (vs ∷ fields)) (Kept keywords.Channel ∷ NameToken n ∷ Sign symbols.Colon ∷ ts)) (sym (append-nil sets))
    (both_read Ends Any (codes "channel " ++ n) (fields_text (vs ∷ fields)) (Kept keywords.Channel ∷ NameToken n ∷ []) (Sign symbols.Colon ∷ sets)
    (both_read Any Ends (codes "channel ") n (Kept keywords.Channel ∷ []) (NameToken n ∷ []) channel_word_read (name_is_read n h) (λ rest e. tt))
    (both_read Any Any (codes " : ") (joined (codes ".") (map field_text (vs ∷ fields))) (Sign symbols.Colon ∷ []) sets colon_read (sets_read vs fields k) (λ rest u. tt))
    (λ rest u. (refl, refl)))) (λ rest. tt)

-- ---- the datatype

abbrev itself : Name → List ℕ
itself n = n

abbrev name_tokens : Name → List Lexeme
name_tokens n = NameToken n ∷ []

each_name : (ns : List Name) → AllProper ns → EachRead (codes " | ") (Sign symbols.Bar) bar_read (λ rest. (refl, refl)) itself name_tokens ns
each_name [] h = tt
each_name (n ∷ ns) h = (name_is_read n h.0, each_name ns h.1)

abbrev behind_names : List Name → List Lexeme
behind_names ns = behind_tokens (codes " | ") (Sign symbols.Bar) bar_read (λ rest. (refl, refl)) itself name_tokens ns

names_flat : (ns : List Name) → spell (phrases (called_trees ns)) (drop 1 (rule forms.Constants)) ≡ behind_names ns
unfolding flat spell spell_part spell_signs rule
names_flat [] = refl
names_flat (n ∷ ns) = ap (λ ws. Sign symbols.Bar ∷ NameToken n ∷ ws) (names_flat ns)

same_names : (ns : List Name) → map itself ns ≡ ns
same_names [] = refl
same_names (n ∷ ns) = ap (λ ms. n ∷ ms) (same_names ns)

constants_flat : (n : Name) (ns : List Name) → flat (node forms.Constants (called_trees (n ∷ ns))) ≡ NameToken n ∷ behind_names ns
unfolding flat spell spell_part rule
constants_flat n ns = ap (λ ws. NameToken n ∷ ws) (names_flat ns)

constants_read : (n : Name) (ns : List Name) → AllProper (n ∷ ns) → Reads Ends (joined (codes " | ") (n ∷ ns)) (flat (node forms.Constants (called_trees (n ∷ ns))))
constants_read n ns h =
    subst (λ ts. Reads Ends (joined (codes " | ") (n ∷ ns)) ts) (sym (constants_flat n ns))
    (subst (λ ms. Reads Ends (joined (codes " | ") ms) (NameToken n ∷ behind_names ns)) (same_names (n ∷ ns))
    (joined_read (codes " | ") (Sign symbols.Bar) bar_read (λ rest. (refl, refl)) itself name_tokens n ns (each_name (n ∷ ns) h)))

no_reserved : (rest : List ℕ) → reserved_of (84 ∷ rest) ≡ None
unfolding keyword_text refused_word_text
no_reserved rest = refl

proper_datatype : (primes : ℕ) → IsProper (primed datatype_name primes)
proper_datatype primes = (record { first = 84; body = []; primes = replicate primes 39; spelled = refl; letter = refl; bytes = tt; ends = all_primes primes }, no_reserved (replicate primes 39))

-- ---- lines of trees

-- the tokens of trees, one after the other
abbrev flats : List Syntax → List Lexeme
flats [] = []
flats (t ∷ ts) = flat t ++ flats ts

flats_append : (ts us : List Syntax) → flats (ts ++ us) ≡ flats ts ++ flats us
flats_append [] us = refl
flats_append (t ∷ ts) us = ap (λ ws. flat t ++ ws) (flats_append ts us) ∙ sym (append_assoc (flat t) (flats ts) (flats us))

parts_flat : (ts : List Syntax) → spell (phrases ts) (rule forms.Script) ≡ flats ts
unfolding spell spell_part spell_signs rule
parts_flat [] = refl
parts_flat (t ∷ ts) = ap (λ ws. flat t ++ ws) (parts_flat ts)

script_flat : (ts : List Syntax) → flat (node forms.Script ts) ≡ flats ts
unfolding flat
script_flat ts = parts_flat ts

datatype_read : (primes : ℕ) (ns : List Name) → AllProper ns → Reads Any (datatype_line primes ns) (flats (datatype_trees primes ns))
unfolding flat spell spell_part spell_signs rule
datatype_read primes [] h = λ rest ws u r. r
datatype_read primes (n ∷ ns) h =
    let t = primed datatype_name primes in
    let names = flat (node forms.Constants (called_trees (n ∷ ns))) in
    subst (λ ts. Reads Any (datatype_line primes (n ∷ ns)) ts) (ap (λ ws. Kept keywords.Datatype ∷ NameToken t ∷ Sign symbols.Definition ∷ ws) (sym (append-nil names)) ∙ sym (append-nil (flat (node forms.Datatype (Called t ∷ node forms.Constants (called_trees (n ∷ ns)) ∷ [])))))
    (ended_read Ends (((codes "datatype " ++ t) ++ codes " = ") ++ joined (codes " | ") (n ∷ ns)) (Kept keywords.Datatype ∷ NameToken t ∷ Sign symbols.Definition ∷ names)
    (both_read Any Ends ((codes "datatype " ++ t) ++ codes " = ") (joined (codes " | ") (n ∷ ns)) (Kept keywords.Datatype ∷ NameToken t ∷ Sign symbols.Definition ∷ []) names
    (both_read Ends Any (codes "datatype " ++ t) (codes " = ") (Kept keywords.Datatype ∷ NameToken t ∷ []) (Sign symbols.Definition ∷ [])
    (both_read Any Ends (codes "datatype ") t (Kept keywords.Datatype ∷ []) (NameToken t ∷ []) datatype_word_read (name_is_read t (proper_datatype primes)) (λ rest e. tt))
    definition_read (λ rest u. (refl, refl)))
    (constants_read n ns h) (λ rest e. tt)) (λ rest. (refl, refl)))

-- ---- channels

all_fields : (fields : List Values) → ((vs : Values) (v : FieldValue) → In vs fields → In v vs → IsShown v) → AllFields fields
all_fields [] h = tt
all_fields (vs ∷ fields) h = (all_values vs (λ v i. h vs v here i), all_fields fields (λ us v i j. h us v (there i) j))
  where
    all_values : (vs : Values) → ((v : FieldValue) → In v vs → IsShown v) → AllShown vs
    all_values [] h = tt
    all_values (v ∷ vs) h = (h v here, all_values vs (λ w i. h w (there i)))

channels_read : (cs : List Channel) → IsShownAlphabet cs → Reads Any (flat_map channel_line cs) (flats (map channel_tree cs))
channels_read [] h = λ rest ws u r. r
channels_read (c ∷ cs) h =
    both_read Any Any (channel_line c) (flat_map channel_line cs) (flat (channel_tree c)) (flats (map channel_tree cs))
    (channel_read c.name c.fields (h.named c here) (all_fields c.fields (λ vs v i j. h.valued c vs v here i j)))
    (channels_read cs (record { named = λ d i. h.named d (there i); valued = λ d vs v i j k. h.valued d vs v (there i) j k })) (λ rest u. tt)

-- ---- bodies

module _ (cs : List Channel) (shown : IsShownAlphabet cs) (primes : ℕ) (Ps : List Proc) (few : length Ps ≤ 65536) (written : (k : ℕ) → k < length Ps → IsWritten (event_count cs) (length Ps) (bodies_of Ps k)) where
  body_read : (k : ℕ) (P : Proc) → k < length Ps → IsWritten (event_count cs) (length Ps) P → Reads Any (body_line cs primes k P) (flat (body_tree cs primes k P))
  unfolding flat spell spell_part spell_signs rule
  body_read k P l w =
      let n = reference primes k in
      let tokens = flat (process_tree cs primes P) in
      subst (λ ts. Reads Any (body_line cs primes k P) (NameToken n ∷ Sign symbols.Definition ∷ ts)) (sym (append-nil tokens))
      (ended_read Ends ((n ++ codes " = ") ++ process_text cs primes P) (NameToken n ∷ Sign symbols.Definition ∷ tokens)
      (both_read Any Ends (n ++ codes " = ") (process_text cs primes P) (NameToken n ∷ Sign symbols.Definition ∷ []) tokens
      (both_read Ends Any n (codes " = ") (NameToken n ∷ []) (Sign symbols.Definition ∷ []) (name_is_read n (proper_reference primes k (omega (arith, l, few)))) definition_read (λ rest u. (refl, refl)))
      (process_read cs shown primes (length Ps) few P w) (λ rest e. tt)) (λ rest. (refl, refl)))

  bodies_read : (start n : ℕ) → start + n ≤ length Ps → Reads Any (flat_map (λ k. body_line cs primes k (bodies_of Ps k)) (range_with_len start n)) (flats (map (λ k. body_tree cs primes k (bodies_of Ps k)) (range_with_len start n)))
  bodies_read start zero h = λ rest ws u r. r
  bodies_read start (suc n) h =
      both_read Any Any (body_line cs primes start (bodies_of Ps start)) (flat_map (λ k. body_line cs primes k (bodies_of Ps k)) (range_with_len (start + 1) n))
      (flat (body_tree cs primes start (bodies_of Ps start))) (flats (map (λ k. body_tree cs primes k (bodies_of Ps k)) (range_with_len (start + 1) n)))
      (body_read start (bodies_of Ps start) (omega (arith, h)) (written start (omega (arith, h)))) (bodies_read (start + 1) n (omega (arith, h))) (λ rest u. tt)

-- ---- the whole

module _ (spec : Specified) (shown : IsShownAlphabet spec.alphabet) (proper : AllProper (constants spec.alphabet)) (few : length spec.bodies ≤ 65536) (written : (k : ℕ) → k < length spec.bodies → IsWritten (event_count spec.alphabet) (length spec.bodies) (bodies_of spec.bodies k)) where
  whole_reads : Reads Any (printed spec) (flat (script_tree spec))
  whole_reads =
      let cs = spec.alphabet in
      let primes = printed_primes spec in
      let typed = datatype_trees (datatype_primes cs) (constants cs) in
      let declared = map channel_tree cs in
      let defined = body_trees cs primes spec.bodies in
      subst (λ ts. Reads Any (printed spec) ts) (sym (script_flat ((typed ++ declared) ++ defined) ∙ flats_append (typed ++ declared) defined ∙ ap (λ ws. ws ++ flats defined) (flats_append typed declared)))
      (both_read Any Any (datatype_line (datatype_primes cs) (constants cs) ++ flat_map channel_line cs) (body_lines cs primes spec.bodies) (flats typed ++ flats declared) (flats defined)
      (both_read Any Any (datatype_line (datatype_primes cs) (constants cs)) (flat_map channel_line cs) (flats typed) (flats declared) (datatype_read (datatype_primes cs) (constants cs) proper) (channels_read cs shown) (λ rest u. tt))
      (bodies_read cs shown primes spec.bodies few written 0 (length spec.bodies) (omega arith)) (λ rest u. tt))

  -- the text has the tokens of the tree
  pub whole_read : length (printed spec) ≤ 65536 → HasTokens (printed spec) (flat (script_tree spec))
  whole_read h =
      (h, same_read (sym (append-nil (printed spec))) (sym (append-nil (flat (script_tree spec)))) (whole_reads [] [] tt nothing_read))
