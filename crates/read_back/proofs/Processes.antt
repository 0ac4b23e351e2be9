-- The texts of processes have the tokens of their trees.
use Rattle.std.proofs.Common.{◌≡◌, ℕ, zero, suc, ◌<◌, ◌≤◌, List, [], ◌∷◌, ◌++◌, map, filter, length, drop, get_or, replicate, true, Some, None, refl, sym, ap, ◌∙◌, subst, arith, append_assoc, append-nil}
use Rattle.std.specs.Prelude.{codes, decimal}
use Rattle.std.specs.List.{flat_map, range_with_len}
use Rattle.std.specs.Char.{is_ascii_digit, is_ascii_alphabetic}
use Rattle.alphabet.specs.declared.events.Event.{Event}
use Rattle.alphabet.specs.declared.events.Event.TheVariants.{Of as ev}
use Rattle.alphabet.specs.EventSets.{Set, has}
use Rattle.alphabet.specs.Channels.{FieldValue, Values, Channel, Parts, dotted, event_text, events, names, event_count, name_of}
use Rattle.alphabet.specs.Elements.{In, here, there}
use Rattle.alphabet.proofs.Lists.{In-get_or}
use Rattle.alphabet.proofs.ChannelPlaces.{event_count-is}
use Rattle.term.specs.Proc as procs
use Rattle.term.specs.Proc.{Proc}
use Rattle.term.specs.Specs.{SetInSigma, PairsInSigma}
use Rattle.term.specs.Traces.{Pairs}
use Rattle.tokens.specs.declared.symbol.Symbol.TheVariants as symbols
use Rattle.tokens.specs.declared.keyword.Keyword.TheVariants as keywords
use Rattle.tokens.specs.Lexeme.{Lexeme, Kept, Sign}
use Rattle.tokens.specs.Spelling.{keyword_text, refused_word_text}
use Rattle.tokens.specs.Text.{All, IsName, is_name_byte, is_prime, Holds}
use Rattle.tokens.specs.Scanning.{reserved_of, named as named_word, next_at}
use Rattle.syntax.specs.declared.form.Form.TheVariants as forms
use Rattle.syntax.specs.declared.operator.Operator.TheVariants as operators
use Rattle.syntax.specs.Grammar.{Syntax, flat, spell, spell_part, spell_signs}
use Rattle.syntax.specs.Rules.{rule}
use Rattle.syntax.specs.Operators.{opening, behind}
use Rattle.denotation.proofs.Reached.{get_or_view}
use Rattle.printing.specs.Printed.{joined, set_text, shared_text, pair_text, reference, process_text}
use Rattle.read_back.proofs.Trees.{node, phrases, event_tree, no_parts, tree_of_event, braced, set_tree, pair_tree, process_tree}
use Rattle.read_back.proofs.Readable.{IsWritten}
use Rattle.read_back.proofs.Prefixes.{event_parts}
use Rattle.read_back.proofs.Given.{AreChosen, chosen}
use Rattle.read_back.proofs.Sets.{AllBelow, all_kept, its_members}
use Rattle.read_back.proofs.Scanned.{token_read, blank_read, other_byte, letter_high, Ends, IsProper, name_read, proper_read, digits_of, digit_name_byte, arrow_at, comma_at, close_brace_at, semicolon_at, hiding_at, left_arrow_at, external_at, internal_at, interrupt_at, open_sharing_at, close_sharing_at, open_renaming_at, close_renaming_at, brace_at}
use Rattle.read_back.proofs.Texts.{Reads, Any, same_read, both_read, any_read, IsShown, AllShown, event_read, EachRead, behind_tokens, joined_read, operation_read}

-- ---- signs between blanks

pub spaced : (sign : Lexeme) (text : List ℕ) → ((rest : List ℕ) → next_at (text ++ (32 ∷ rest)) ≡ Some (Some sign, 32 ∷ rest)) → Reads Any (32 ∷ (text ++ (32 ∷ []))) (sign ∷ [])
spaced sign text at rest ws u r =
    blank_read 32 ((text ++ (32 ∷ [])) ++ rest) (sign ∷ ws) refl
    (same_read (append_assoc text (32 ∷ []) rest) refl (token_read (text ++ (32 ∷ rest)) (32 ∷ rest) sign ws (at rest) (blank_read 32 rest ws refl r)))

pub comma_read : Reads Any (codes ", ") (Sign symbols.Comma ∷ [])
comma_read rest ws u r = token_read (44 ∷ 32 ∷ rest) (32 ∷ rest) (Sign symbols.Comma) ws (comma_at (32 ∷ rest)) (blank_read 32 rest ws refl r)

-- ---- words

kept_stop : (rest : List ℕ) → named_word (reserved_of (codes "STOP")) (codes "STOP") rest ≡ Some (Some (Kept keywords.Stop), rest)
unfolding named_word keyword_text refused_word_text
kept_stop rest = refl

kept_skip : (rest : List ℕ) → named_word (reserved_of (codes "SKIP")) (codes "SKIP") rest ≡ Some (Some (Kept keywords.Skip), rest)
unfolding named_word keyword_text refused_word_text
kept_skip rest = refl

stop_read : Reads Ends (codes "STOP") (Kept keywords.Stop ∷ [])
stop_read rest ws e r =
    let is : IsName (codes "STOP") = record { first = 83; body = 84 ∷ 79 ∷ 80 ∷ []; primes = []; spelled = refl; letter = refl; bytes = (refl, (refl, (refl, tt))); ends = tt } in
    token_read (codes "STOP" ++ rest) rest (Kept keywords.Stop) ws (name_read (codes "STOP") rest is e ∙ kept_stop rest) r

skip_read : Reads Ends (codes "SKIP") (Kept keywords.Skip ∷ [])
skip_read rest ws e r =
    let is : IsName (codes "SKIP") = record { first = 83; body = 75 ∷ 73 ∷ 80 ∷ []; primes = []; spelled = refl; letter = refl; bytes = (refl, (refl, (refl, tt))); ends = tt } in
    token_read (codes "SKIP" ++ rest) rest (Kept keywords.Skip) ws (name_read (codes "SKIP") rest is e ∙ kept_skip rest) r

pub all_primes : (n : ℕ) → All is_prime (replicate n 39)
all_primes zero = tt
all_primes (suc n) = (refl, all_primes n)

name_bytes : (ds : List ℕ) → All is_ascii_digit ds → All is_name_byte ds
name_bytes [] h = tt
name_bytes (d ∷ ds) h = (digit_name_byte d h.0, name_bytes ds h.1)

no_reserved : (rest : List ℕ) → reserved_of (80 ∷ rest) ≡ None
unfolding keyword_text refused_word_text
no_reserved rest = refl

pub proper_reference : (primes k : ℕ) → k ≤ 1000000 → IsProper (reference primes k)
proper_reference primes k h =
    (record { first = 80; body = decimal k; primes = replicate primes 39; spelled = refl; letter = refl; bytes = name_bytes (decimal k) (digits_of k h); ends = all_primes primes }, no_reserved (decimal k ++ replicate primes 39))

-- ---- events

-- An alphabet whose channels and constants have names that are no reserved words, and whose numbers are within the limits.
pub record IsShownAlphabet (cs : List Channel) : Type 0 where
  pub named : (c : Channel) → In c cs → IsProper c.name
  pub valued : (c : Channel) (vs : Values) (v : FieldValue) → In c cs → In vs c.fields → In v vs → IsShown v

all_shown : (sets : List Values) (vs : Values) → ((set : Values) (v : FieldValue) → In set sets → In v set → IsShown v) → AreChosen vs sets → AllShown vs
all_shown [] [] g h = tt
all_shown [] (v ∷ vs) g h = absurd h
all_shown (set ∷ sets) [] g h = absurd h
all_shown (set ∷ sets) (v ∷ vs) g h = (g set v here h.0, all_shown sets vs (λ t u i j. g t u (there i) j) h.1)

pub empty_read : Reads Any (codes "{}") (flat (braced []))
unfolding flat spell spell_signs rule
empty_read rest ws u r =
    token_read (123 ∷ 125 ∷ rest) (125 ∷ rest) (Sign symbols.OpenBrace) (Sign symbols.CloseBrace ∷ ws) (brace_at rest 125 refl refl)
    (token_read (125 ∷ rest) rest (Sign symbols.CloseBrace) ws (close_brace_at rest) r)

module _ (cs : List Channel) (shown : IsShownAlphabet cs) where
  abbrev part : ℕ → Parts
  part a = get_or (events cs) a no_parts

  shown_parts : (a : ℕ) → a < event_count cs → IsProper (part a).channel × AllShown (part a).values
  shown_parts a l =
      let there_is : a < length (events cs) = omega (arith, l, event_count-is cs) in
      let (c, i, n, v) = event_parts cs (part a) (In-get_or (events cs) a no_parts there_is) in
      (subst IsProper (sym n) (shown.named c i), all_shown c.fields (part a).values (λ set v j k. shown.valued c set v i j k) (chosen c.fields (part a).values v))

  its_name : (a : ℕ) → a < event_count cs → name_of cs (ev a) ≡ event_text (part a)
  unfolding names
  its_name a l = get_or_view event_text (events cs) a [] no_parts (omega (arith, l, event_count-is cs))

  event_is_read : (a : ℕ) → a < event_count cs → Reads Ends (name_of cs (ev a)) (flat (tree_of_event cs (ev a)))
  event_is_read a l =
      let h = shown_parts a l in
      subst (λ t. Reads Ends t (flat (event_tree (part a)))) (sym (its_name a l)) (event_read (part a) h.0 h.1)

  begins_event : (a : ℕ) → a < event_count cs → (c : ℕ) × (rest : List ℕ) × (name_of cs (ev a) ≡ c ∷ rest) × (is_ascii_alphabetic c ≡ true)
  begins_event a l =
      let h = (shown_parts a l).0.0 in
      (h.first, (h.body ++ h.primes) ++ dotted_of (part a), its_name a l ∙ ap (λ t. t ++ dotted_of (part a)) h.spelled, h.letter)
    where
      dotted_of : Parts → List ℕ
      dotted_of p = dotted p.values

  -- ---- sets

  abbrev event_tokens : Event → List Lexeme
  event_tokens e = flat (tree_of_event cs e)

  each_event : (ks : List ℕ) → AllBelow (event_count cs) ks → EachRead (codes ", ") (Sign symbols.Comma) comma_read (λ rest. (refl, refl)) (name_of cs) event_tokens (map ev ks)
  each_event [] h = tt
  each_event (a ∷ ks) h = (event_is_read a h.0, each_event ks h.1)

  abbrev behind_events : List Event → List Lexeme
  behind_events es = behind_tokens (codes ", ") (Sign symbols.Comma) comma_read (λ rest. (refl, refl)) (name_of cs) event_tokens es

  others_flat : (es : List Event) → spell (phrases (map (tree_of_event cs) es)) (drop 2 (rule forms.Set)) ≡ behind_events es ++ (Sign symbols.CloseBrace ∷ [])
  unfolding spell spell_part spell_signs rule
  others_flat [] = refl
  others_flat (e ∷ es) = ap (λ ws. Sign symbols.Comma ∷ (event_tokens e ++ ws)) (others_flat es) ∙ ap (λ ws. Sign symbols.Comma ∷ ws) (sym (append_assoc (event_tokens e) (behind_events es) (Sign symbols.CloseBrace ∷ [])))

  set_flat : (e : Event) (es : List Event) → flat (braced (map (tree_of_event cs) (e ∷ es))) ≡ Sign symbols.OpenBrace ∷ ((event_tokens e ++ behind_events es) ++ (Sign symbols.CloseBrace ∷ []))
  unfolding flat spell spell_part rule
  set_flat e es = ap (λ ws. Sign symbols.OpenBrace ∷ (event_tokens e ++ ws)) (others_flat es) ∙ ap (λ ws. Sign symbols.OpenBrace ∷ ws) (sym (append_assoc (event_tokens e) (behind_events es) (Sign symbols.CloseBrace ∷ [])))

  abbrev braces : List ℕ → List ℕ
  braces text = (123 ∷ text) ++ (125 ∷ [])

  braced_read : (text : List ℕ) (tokens : List Lexeme) (c : ℕ) (others : List ℕ) → text ≡ c ∷ others → is_ascii_alphabetic c ≡ true → Reads Ends text tokens → Reads Any (braces text) (Sign symbols.OpenBrace ∷ (tokens ++ (Sign symbols.CloseBrace ∷ [])))
  braced_read text tokens c others e letter h rest ws u r =
      let high = letter_high c letter in
      let last = h (125 ∷ rest) (Sign symbols.CloseBrace ∷ ws) (refl, refl) (token_read (125 ∷ rest) rest (Sign symbols.CloseBrace) ws (close_brace_at rest) r) in
      let z : text ++ (125 ∷ rest) ≡ c ∷ (others ++ (125 ∷ rest)) = ap (λ t. t ++ (125 ∷ rest)) e in
      same_read (ap (λ t. 123 ∷ t) (append_assoc text (125 ∷ []) rest ∙ z)) (ap (λ t. Sign symbols.OpenBrace ∷ t) (append_assoc tokens (Sign symbols.CloseBrace ∷ []) ws))
      (token_read (123 ∷ c ∷ (others ++ (125 ∷ rest))) (c ∷ (others ++ (125 ∷ rest))) (Sign symbols.OpenBrace) (tokens ++ (Sign symbols.CloseBrace ∷ ws))
      (brace_at (others ++ (125 ∷ rest)) c (other_byte c 45 (λ x. omega (arith, high.0, x))) (other_byte 124 c (λ x. omega (arith, high.1, x))))
      (subst (λ t. Holds t (tokens ++ (Sign symbols.CloseBrace ∷ ws))) z last))

  events_read : (ks : List ℕ) → AllBelow (event_count cs) ks → Reads Any (braces (joined (codes ", ") (map (name_of cs) (map ev ks)))) (flat (braced (map (tree_of_event cs) (map ev ks))))
  events_read [] h = empty_read
  events_read (a ∷ ks) h =
      let b = begins_event a h.0 in
      let between = flat_map (λ u. codes ", " ++ u) (map (name_of cs) (map ev ks)) in
      subst (λ ts. Reads Any (braces (joined (codes ", ") (map (name_of cs) (map ev (a ∷ ks))))) ts) (sym (set_flat (ev a) (map ev ks)))
      (braced_read (joined (codes ", ") (map (name_of cs) (map ev (a ∷ ks)))) (event_tokens (ev a) ++ behind_events (map ev ks)) b.0 (b.1 ++ between) (ap (λ t. t ++ between) b.2) b.3
      (joined_read (codes ", ") (Sign symbols.Comma) comma_read (λ rest. (refl, refl)) (name_of cs) event_tokens (ev a) (map ev ks) (each_event (a ∷ ks) h)))

  set_read : (A : Set) → SetInSigma (event_count cs) A → Reads Any (set_text cs A) (flat (set_tree cs A))
  unfolding set_text
  set_read A sigma =
      subst (λ es. Reads Any (braces (joined (codes ", ") (map (name_of cs) es))) (flat (braced (map (tree_of_event cs) es)))) (sym (its_members (event_count cs) A sigma))
      (events_read (filter (has A) (range_with_len 0 256)) (all_kept (event_count cs) (has A) 0 256 (λ a e. sigma (ev a) e)))

  -- ---- renamings

  left_arrow_read : Reads Any (codes " <- ") (Sign symbols.LeftArrow ∷ [])
  left_arrow_read = spaced (Sign symbols.LeftArrow) (codes "<-") left_arrow_at

  abbrev pair_tokens : ℕ × ℕ → List Lexeme
  pair_tokens p = flat (pair_tree cs p)

  pair_flat : (p : ℕ × ℕ) → pair_tokens p ≡ (event_tokens (ev p.0) ++ (Sign symbols.LeftArrow ∷ [])) ++ event_tokens (ev p.1)
  unfolding flat spell spell_part spell_signs rule
  pair_flat p =
      ap (λ ws. event_tokens (ev p.0) ++ (Sign symbols.LeftArrow ∷ ws)) (append-nil (event_tokens (ev p.1)))
      ∙ sym (append_assoc (event_tokens (ev p.0)) (Sign symbols.LeftArrow ∷ []) (event_tokens (ev p.1)))

  pair_read : (p : ℕ × ℕ) → p.0 < event_count cs → p.1 < event_count cs → Reads Ends (pair_text cs p) (pair_tokens p)
  pair_read p h k =
      subst (λ ts. Reads Ends (pair_text cs p) ts) (sym (pair_flat p))
      (both_read Any Ends (name_of cs (ev p.0) ++ codes " <- ") (name_of cs (ev p.1)) (event_tokens (ev p.0) ++ (Sign symbols.LeftArrow ∷ [])) (event_tokens (ev p.1))
      (both_read Ends Any (name_of cs (ev p.0)) (codes " <- ") (event_tokens (ev p.0)) (Sign symbols.LeftArrow ∷ []) (event_is_read p.0 h) left_arrow_read (λ rest u. (refl, refl)))
      (event_is_read p.1 k) (λ rest e. tt))

  each_pair : (R : Pairs) → PairsInSigma (event_count cs) R → EachRead (codes ", ") (Sign symbols.Comma) comma_read (λ rest. (refl, refl)) (pair_text cs) pair_tokens R
  each_pair [] l = tt
  each_pair (p ∷ R) l = let both = l 0 p (omega arith) in (pair_read p both.0 both.1, each_pair R (λ k d i. l (suc k) d (omega arith)))

  abbrev behind_pairs : Pairs → List Lexeme
  behind_pairs R = behind_tokens (codes ", ") (Sign symbols.Comma) comma_read (λ rest. (refl, refl)) (pair_text cs) pair_tokens R

  pairs_flat : (R : Pairs) → spell (phrases (map (pair_tree cs) R)) (drop 3 (rule (forms.Operation operators.Renaming))) ≡ behind_pairs R ++ (Sign symbols.CloseRenaming ∷ [])
  unfolding spell spell_part spell_signs rule opening behind
  pairs_flat [] = refl
  pairs_flat (p ∷ R) = ap (λ ws. Sign symbols.Comma ∷ (pair_tokens p ++ ws)) (pairs_flat R) ∙ ap (λ ws. Sign symbols.Comma ∷ ws) (sym (append_assoc (pair_tokens p) (behind_pairs R) (Sign symbols.CloseRenaming ∷ [])))

  renaming_flat : (t : Syntax) (p : ℕ × ℕ) (R : Pairs) → flat (node (forms.Operation operators.Renaming) (t ∷ map (pair_tree cs) (p ∷ R))) ≡ flat t ++ ((Sign symbols.OpenRenaming ∷ []) ++ ((pair_tokens p ++ behind_pairs R) ++ (Sign symbols.CloseRenaming ∷ [])))
  unfolding flat spell spell_part rule opening behind
  renaming_flat t p R =
      ap (λ ws. flat t ++ (Sign symbols.OpenRenaming ∷ (pair_tokens p ++ ws))) (pairs_flat R)
      ∙ ap (λ ws. flat t ++ (Sign symbols.OpenRenaming ∷ ws)) (sym (append_assoc (pair_tokens p) (behind_pairs R) (Sign symbols.CloseRenaming ∷ [])))

  open_renaming_read : Reads Any (codes " [[") (Sign symbols.OpenRenaming ∷ [])
  open_renaming_read rest ws u r = blank_read 32 (91 ∷ 91 ∷ rest) (Sign symbols.OpenRenaming ∷ ws) refl (token_read (91 ∷ 91 ∷ rest) rest (Sign symbols.OpenRenaming) ws (open_renaming_at rest) r)

  close_renaming_read : Reads Any (codes "]]") (Sign symbols.CloseRenaming ∷ [])
  close_renaming_read rest ws u r = token_read (93 ∷ 93 ∷ rest) rest (Sign symbols.CloseRenaming) ws (close_renaming_at rest) r

  abbrev pairs_text : Pairs → List ℕ
  pairs_text R = joined (codes ", ") (map (pair_text cs) R) ++ codes "]]"

  pairs_read : (p : ℕ × ℕ) (R : Pairs) → PairsInSigma (event_count cs) (p ∷ R) → Reads Any (pairs_text (p ∷ R)) ((pair_tokens p ++ behind_pairs R) ++ (Sign symbols.CloseRenaming ∷ []))
  pairs_read p R l =
      both_read Ends Any (joined (codes ", ") (map (pair_text cs) (p ∷ R))) (codes "]]") (pair_tokens p ++ behind_pairs R) (Sign symbols.CloseRenaming ∷ [])
      (joined_read (codes ", ") (Sign symbols.Comma) comma_read (λ rest. (refl, refl)) (pair_text cs) pair_tokens p R (each_pair (p ∷ R) l))
      close_renaming_read (λ rest u. (refl, refl))

  -- ---- processes

  two_parts : (l n : List Lexeme) (sign : Lexeme) → l ++ (sign ∷ (n ++ [])) ≡ l ++ ((sign ∷ []) ++ n)
  two_parts l n sign = ap (λ ws. l ++ (sign ∷ ws)) (append-nil n)

  shared_read : (A : Set) → SetInSigma (event_count cs) A → Reads Any (shared_text cs A) ((Sign symbols.OpenSharing ∷ flat (set_tree cs A)) ++ (Sign symbols.CloseSharing ∷ []))
  unfolding shared_text
  shared_read A sigma =
      both_read Any Any (codes " [| " ++ set_text cs A) (codes " |] ") (Sign symbols.OpenSharing ∷ flat (set_tree cs A)) (Sign symbols.CloseSharing ∷ [])
      (both_read Any Any (codes " [| ") (set_text cs A) (Sign symbols.OpenSharing ∷ []) (flat (set_tree cs A)) (spaced (Sign symbols.OpenSharing) (codes "[|") (λ rest. open_sharing_at (32 ∷ rest))) (set_read A sigma) (λ rest u. tt))
      (spaced (Sign symbols.CloseSharing) (codes "|]") (λ rest. close_sharing_at (32 ∷ rest))) (λ rest u. tt)

  shared_flat : (l s n : List Lexeme) (a b : Lexeme) → l ++ (a ∷ (s ++ (b ∷ (n ++ [])))) ≡ l ++ (((a ∷ s) ++ (b ∷ [])) ++ n)
  shared_flat l s n a b = ap (λ ws. l ++ (a ∷ ws)) (ap (λ ws. s ++ (b ∷ ws)) (append-nil n) ∙ sym (append_assoc s (b ∷ []) n))

  module _ (primes m : ℕ) (few : m ≤ 65536) where
    abbrev text : Proc → List ℕ
    text P = process_text cs primes P

    abbrev tokens : Proc → List Lexeme
    tokens P = flat (process_tree cs primes P)

    ends_shared : (A : Set) (rest : List ℕ) → Ends (shared_text cs A ++ rest)
    unfolding shared_text
    ends_shared A rest = (refl, refl)

    pub process_read : (P : Proc) → IsWritten (event_count cs) m P → Reads Ends (text P) (tokens P)
    unfolding flat spell spell_part spell_signs rule opening behind process_text process_tree
    process_read procs.stop w = stop_read
    process_read procs.skip w = skip_read
    process_read (procs.prefix a P) w =
        any_read Ends (text (procs.prefix a P)) (tokens (procs.prefix a P))
        (operation_read (name_of cs (ev a)) (codes " -> ") (text P) (event_tokens (ev a)) (Sign symbols.Arrow ∷ []) (tokens P) (event_tokens (ev a) ++ (Sign symbols.Arrow ∷ (tokens P ++ [])))
        (event_is_read a w.0) (spaced (Sign symbols.Arrow) (codes "->") (λ rest. arrow_at (32 ∷ rest))) (λ rest. (refl, refl)) (process_read P w.1) (two_parts (event_tokens (ev a)) (tokens P) (Sign symbols.Arrow)))
    process_read (procs.ext P Q) w =
        any_read Ends (text (procs.ext P Q)) (tokens (procs.ext P Q))
        (operation_read (text P) (codes " [] ") (text Q) (tokens P) (Sign symbols.ExternalChoice ∷ []) (tokens Q) (tokens P ++ (Sign symbols.ExternalChoice ∷ (tokens Q ++ [])))
        (process_read P w.0) (spaced (Sign symbols.ExternalChoice) (codes "[]") (λ rest. external_at (32 ∷ rest))) (λ rest. (refl, refl)) (process_read Q w.1) (two_parts (tokens P) (tokens Q) (Sign symbols.ExternalChoice)))
    process_read (procs.int P Q) w =
        any_read Ends (text (procs.int P Q)) (tokens (procs.int P Q))
        (operation_read (text P) (codes " |~| ") (text Q) (tokens P) (Sign symbols.InternalChoice ∷ []) (tokens Q) (tokens P ++ (Sign symbols.InternalChoice ∷ (tokens Q ++ [])))
        (process_read P w.0) (spaced (Sign symbols.InternalChoice) (codes "|~|") (λ rest. internal_at (32 ∷ rest))) (λ rest. (refl, refl)) (process_read Q w.1) (two_parts (tokens P) (tokens Q) (Sign symbols.InternalChoice)))
    process_read (procs.seq P Q) w =
        any_read Ends (text (procs.seq P Q)) (tokens (procs.seq P Q))
        (operation_read (text P) (codes " ; ") (text Q) (tokens P) (Sign symbols.Semicolon ∷ []) (tokens Q) (tokens P ++ (Sign symbols.Semicolon ∷ (tokens Q ++ [])))
        (process_read P w.0) (spaced (Sign symbols.Semicolon) (codes ";") (λ rest. semicolon_at (32 ∷ rest))) (λ rest. (refl, refl)) (process_read Q w.1) (two_parts (tokens P) (tokens Q) (Sign symbols.Semicolon)))
    process_read (procs.intr P Q) w =
        any_read Ends (text (procs.intr P Q)) (tokens (procs.intr P Q))
        (operation_read (text P) (codes " /\\ ") (text Q) (tokens P) (Sign symbols.Interrupt ∷ []) (tokens Q) (tokens P ++ (Sign symbols.Interrupt ∷ (tokens Q ++ [])))
        (process_read P w.0) (spaced (Sign symbols.Interrupt) (codes "/\\") (λ rest. interrupt_at (32 ∷ rest))) (λ rest. (refl, refl)) (process_read Q w.1) (two_parts (tokens P) (tokens Q) (Sign symbols.Interrupt)))
    process_read (procs.par A P Q) w =
        any_read Ends (text (procs.par A P Q)) (tokens (procs.par A P Q))
        (operation_read (text P) (shared_text cs A) (text Q) (tokens P) ((Sign symbols.OpenSharing ∷ flat (set_tree cs A)) ++ (Sign symbols.CloseSharing ∷ [])) (tokens Q) (tokens P ++ (Sign symbols.OpenSharing ∷ (flat (set_tree cs A) ++ (Sign symbols.CloseSharing ∷ (tokens Q ++ [])))))
        (process_read P w.1) (shared_read A w.0) (ends_shared A) (process_read Q w.2) (shared_flat (tokens P) (flat (set_tree cs A)) (tokens Q) (Sign symbols.OpenSharing) (Sign symbols.CloseSharing)))
    process_read (procs.hide A P) w =
        any_read Ends (text (procs.hide A P)) (tokens (procs.hide A P))
        (operation_read (text P) (codes " \\ ") (set_text cs A) (tokens P) (Sign symbols.Hiding ∷ []) (flat (set_tree cs A)) (tokens P ++ (Sign symbols.Hiding ∷ (flat (set_tree cs A) ++ [])))
        (process_read P w.1) (spaced (Sign symbols.Hiding) (codes "\\") hiding_at) (λ rest. (refl, refl)) (any_read Ends (set_text cs A) (flat (set_tree cs A)) (set_read A w.0)) (two_parts (tokens P) (flat (set_tree cs A)) (Sign symbols.Hiding)))
    process_read (procs.ren [] P) w = absurd (omega (arith, w.0.some))
    process_read (procs.ren (p ∷ R) P) w =
        any_read Ends (text (procs.ren (p ∷ R) P)) (tokens (procs.ren (p ∷ R) P))
        (operation_read (text P) (codes " [[") (pairs_text (p ∷ R)) (tokens P) (Sign symbols.OpenRenaming ∷ []) ((pair_tokens p ++ behind_pairs R) ++ (Sign symbols.CloseRenaming ∷ [])) (flat (node (forms.Operation operators.Renaming) (process_tree cs primes P ∷ map (pair_tree cs) (p ∷ R))))
        (process_read P w.1) open_renaming_read (λ rest. (refl, refl)) (any_read Ends (pairs_text (p ∷ R)) ((pair_tokens p ++ behind_pairs R) ++ (Sign symbols.CloseRenaming ∷ [])) (pairs_read p R w.0.lies)) (renaming_flat (process_tree cs primes P) p R))
    process_read (procs.name k) w = λ rest ws e r. proper_read (reference primes k) rest ws (proper_reference primes k (omega (arith, w, few))) e r
