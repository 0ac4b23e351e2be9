-- What names stand for, after some number of steps and in the end.
use Rattle.std.proofs.Common.{◌≡◌, ℕ, zero, suc, ◌+◌, List, ◌∷◌, Bool, true, false, cond, Option, Some, None, sym, ap, ◌∙◌, arith}
use Rattle.syntax.specs.declared.form.Form.{Form}
use Rattle.syntax.specs.Grammar.{Syntax, Called, Numeral, Node, Syntaxes, NoSyntax, MoreSyntax}
use Rattle.values.specs.Values.{◌>>=◌, Name}
use Rattle.values.specs.Worths.{Worth, truth, Known, worth, worths, formed, the_truth, truth_only}
use Rattle.values.specs.Names.{Entry, Meaning, channel, datatype, constant_name, definition, parametric, meaning, worth_of, known_in, next_known, IsWithin, IsReached, Stands}
use Rattle.values.proofs.Keeps.{bind_some, bind_is, chosen, if_is, and_is, or_is, Parted, by_if, by_and, by_or, by_all, parted, EachPhrase, by_parts, each_by_parts}
use Rattle.tokens.proofs.Tables.{some_of}

-- ---- more names known

-- what the first is, the second is too
abbrev Within : {X : Type 0} → Option X → Option X → Type 0
Within {X = X} o p = (x : X) → o ≡ Some x → p ≡ Some x

branch_grows : (b : Bool) (t t' u u' : Option Worth) → Within t t' → Within u u' → Within (cond b t u) (cond b t' u')
branch_grows true t t' u u' h k = h
branch_grows false t t' u u' h k = k

chosen_grows : (c c' t t' u u' : Option Worth) → Within c c' → Within t t' → Within u u' → Within (chosen c t u) (chosen c' t' u')
chosen_grows c c' t t' u u' g h k w e =
    let (v, a, d) = bind_some c (λ v. the_truth v >>= λ b. cond b t u) w e in
    let (b, i, j) = bind_some (the_truth v) (λ b. cond b t u) w d in
    bind_is c' (λ v. the_truth v >>= λ b. cond b t' u') v w (g v a) (bind_is (the_truth v) (λ b. cond b t' u') b w i (branch_grows b t t' u u' h k w j))

side_grows : (o p : Option Worth) → Within o p → Within (truth_only o) (truth_only p)
unfolding truth_only
side_grows o p h w e =
    let (v, a, b) = bind_some o (λ w. the_truth w >>= λ b. some_of (truth b)) w e in
    bind_is p (λ w. the_truth w >>= λ b. some_of (truth b)) v w (h v a) b

same_worth : (w : Worth) → Within (Some w) (Some w)
same_worth w x e = e

module _ (f g : Known) (h : IsWithin f g) where
  abbrev Grows : Syntax → Type 0
  Grows t = Within (worth f t) (worth g t)

  names_grow : (n : Name) → Grows (Called n)
  unfolding worth
  names_grow n = h n

  numbers_grow : (n : ℕ) → Grows (Numeral n)
  unfolding worth
  numbers_grow n w e = e

  parts_grow : (ts : Syntaxes) → EachPhrase Grows ts → Within (worths f ts) (worths g ts)
  unfolding worths
  parts_grow NoSyntax k ws e = e
  parts_grow (MoreSyntax t ts) k ws e =
      let (w, a, b) = bind_some (worth f t) (λ w. worths f ts >>= λ ws. some_of (w ∷ ws)) ws e in
      let (us, c, d) = bind_some (worths f ts) (λ ws. some_of (w ∷ ws)) ws b in
      bind_is (worth g t) (λ w. worths g ts >>= λ ws. some_of (w ∷ ws)) w ws (k.0 w a) (bind_is (worths g ts) (λ ws. some_of (w ∷ ws)) us ws (parts_grow ts k.1 us c) d)

  node_grows : (form : Form) (ts : Syntaxes) → Parted form ts → EachPhrase Grows ts → Grows (Node form ts)
  node_grows _ _ (by_if c t u) k w e =
      if_is g c t u ∙ chosen_grows (worth f c) (worth g c) (worth f t) (worth g t) (worth f u) (worth g u) k.0 k.1.0 k.1.1.0 w (sym (if_is f c t u) ∙ e)
  node_grows _ _ (by_and t u) k w e =
      and_is g t u ∙ chosen_grows (worth f t) (worth g t) (truth_only (worth f u)) (truth_only (worth g u)) (Some (truth false)) (Some (truth false)) k.0 (side_grows (worth f u) (worth g u) k.1.0) (same_worth (truth false)) w (sym (and_is f t u) ∙ e)
  node_grows _ _ (by_or t u) k w e =
      or_is g t u ∙ chosen_grows (worth f t) (worth g t) (Some (truth true)) (Some (truth true)) (truth_only (worth f u)) (truth_only (worth g u)) k.0 (same_worth (truth true)) (side_grows (worth f u) (worth g u) k.1.0) w (sym (or_is f t u) ∙ e)
  node_grows _ _ (by_all form ts is) k w e =
      let (ws, a, b) = bind_some (worths f ts) (λ ws. formed form ws) w (sym (is f) ∙ e) in
      is g ∙ bind_is (worths g ts) (λ ws. formed form ws) ws w (parts_grow ts k ws a) b

  pub worth_grows : (t : Syntax) (w : Worth) → worth f t ≡ Some w → worth g t ≡ Some w
  worth_grows t = by_parts Grows names_grow numbers_grow (λ form ts k. node_grows form ts (parted form ts) k) t

  pub worths_grow : (ts : Syntaxes) (ws : List Worth) → worths f ts ≡ Some ws → worths g ts ≡ Some ws
  worths_grow ts = parts_grow ts (each_by_parts Grows names_grow numbers_grow (λ form ts k. node_grows form ts (parted form ts) k) ts)

of_grows : (f g : Known) → IsWithin f g → (n : Name) (m : Meaning) (w : Worth) → worth_of f n m ≡ Some w → worth_of g n m ≡ Some w
unfolding worth_of
of_grows f g h n (channel ts) w e = e
of_grows f g h n (datatype cs) w e = e
of_grows f g h n constant_name w e = e
of_grows f g h n (definition t) w e = worth_grows f g h t w e
of_grows f g h n (parametric xs t) w e = absurd cc

step_grows : (es : List Entry) (f g : Known) → IsWithin f g → IsWithin (next_known es f) (next_known es g)
unfolding next_known
step_grows es f g h n w e =
    let (m, a, b) = bind_some (meaning es n) (worth_of f n) w e in
    bind_is (meaning es n) (worth_of g n) m w a (of_grows f g h n m w b)

pub steps_grow : (es : List Entry) (k : ℕ) → IsWithin (known_in es k) (known_in es (suc k))
unfolding known_in next_known
steps_grow es zero n w e = absurd cc
steps_grow es (suc k) n w e = step_grows es (known_in es k) (known_in es (suc k)) (steps_grow es k) n w e

pub later_steps : (es : List Entry) (j k : ℕ) → IsWithin (known_in es k) (known_in es (j + k))
later_steps es zero k n w e = ap (λ i. known_in es i n) (let z : 0 + k ≡ k = omega arith in z) ∙ e
later_steps es (suc j) k n w e = ap (λ i. known_in es i n) (let z : suc j + k ≡ suc (j + k) = omega arith in z) ∙ steps_grow es (j + k) n w (later_steps es j k n w e)

-- ---- what is known is known after some number of steps

-- what it is after each number of steps, which stays once it is there
abbrev Stays : {X : Type 0} → (ℕ → Option X) → Type 0
Stays F = (j k : ℕ) → Within (F k) (F (j + k))

-- what this is, that is after some number of steps
abbrev Reached : {X : Type 0} → Option X → (ℕ → Option X) → Type 0
Reached {X = X} o F = (x : X) → o ≡ Some x → (k : ℕ) × (F k ≡ Some x)

first_stays : {X : Type 0} (F : ℕ → Option X) → Stays F → (j k : ℕ) → Within (F j) (F (j + k))
first_stays F h j k x e = ap F (let z : j + k ≡ k + j = omega arith in z) ∙ h k j x e

-- what follows from both is there when both are
bind_reached : {X Y : Type 0} (o : Option X) (O : ℕ → Option X) (f : X → Option Y) (F : X → ℕ → Option Y) → Stays O → Reached o O → ((x : X) → Stays (F x)) → ((x : X) → Reached (f x) (F x)) → Reached (o >>= f) (λ k. O k >>= λ x. F x k)
bind_reached o O f F h k s r y e =
    let (x, a, b) = bind_some o f y e in
    let (i, c) = k x a in
    let (j, d) = r x y b in
    (i + j, bind_is (O (i + j)) (λ x. F x (i + j)) x y (first_stays O h i j x c) (s x i j y d))

bind_stays : {X Y : Type 0} (O : ℕ → Option X) (f : X → Option Y) → Stays O → Stays (λ k. O k >>= f)
bind_stays O f h j k y e =
    let (x, a, b) = bind_some (O k) f y e in
    bind_is (O (j + k)) f x y (h j k x a) b

fixed_stays : {X : Type 0} (o : Option X) → Stays (λ k. o)
fixed_stays o j k x e = e

fixed_reached : {X : Type 0} (o : Option X) → Reached o (λ k. o)
fixed_reached o x e = (0, e)

branch_stays : (b : Bool) (T U : ℕ → Option Worth) → Stays T → Stays U → Stays (λ k. cond b (T k) (U k))
branch_stays true T U h k = h
branch_stays false T U h k = k

branch_reached : (b : Bool) (t u : Option Worth) (T U : ℕ → Option Worth) → Reached t T → Reached u U → Reached (cond b t u) (λ k. cond b (T k) (U k))
branch_reached true t u T U h k = h
branch_reached false t u T U h k = k

truth_stays : (v : Worth) (T U : ℕ → Option Worth) → Stays T → Stays U → Stays (λ k. the_truth v >>= λ b. cond b (T k) (U k))
truth_stays v T U h k = by (the_truth v)
  where
    by : (o : Option Bool) → Stays (λ k. o >>= λ b. cond b (T k) (U k))
    by None i j x e = e
    by (Some b) i j x e = branch_stays b T U h k i j x e

chosen_reached : (c t u : Option Worth) (C T U : ℕ → Option Worth) → Stays C → Reached c C → Stays T → Reached t T → Stays U → Reached u U → Reached (chosen c t u) (λ k. chosen (C k) (T k) (U k))
chosen_reached c t u C T U a b d e f g =
    bind_reached c C (λ v. the_truth v >>= λ b. cond b t u) (λ v k. the_truth v >>= λ b. cond b (T k) (U k)) a b (λ v. truth_stays v T U d f)
    (λ v. bind_reached (the_truth v) (λ k. the_truth v) (λ b. cond b t u) (λ b k. cond b (T k) (U k)) (fixed_stays (the_truth v)) (fixed_reached (the_truth v)) (λ b. branch_stays b T U d f) (λ b. branch_reached b t u T U e g))

side_reached : (o : Option Worth) (O : ℕ → Option Worth) → Stays O → Reached o O → Reached (truth_only o) (λ k. truth_only (O k))
unfolding truth_only
side_reached o O h k =
    bind_reached o O (λ w. the_truth w >>= λ b. some_of (truth b)) (λ w k. the_truth w >>= λ b. some_of (truth b)) h k (λ w. fixed_stays (the_truth w >>= λ b. some_of (truth b))) (λ w. fixed_reached (the_truth w >>= λ b. some_of (truth b)))

module _ (es : List Entry) (f : Known) (h : IsReached es f) where
  -- what a phrase stands for after so many steps
  abbrev after : Syntax → ℕ → Option Worth
  after t k = worth (known_in es k) t

  abbrev all_after : Syntaxes → ℕ → Option (List Worth)
  all_after ts k = worths (known_in es k) ts

  stays : (t : Syntax) → Stays (after t)
  stays t j k w e = worth_grows (known_in es k) (known_in es (j + k)) (later_steps es j k) t w e

  all_stay : (ts : Syntaxes) → Stays (all_after ts)
  all_stay ts j k ws e = worths_grow (known_in es k) (known_in es (j + k)) (later_steps es j k) ts ws e

  side_stays : (t : Syntax) → Stays (λ k. truth_only (after t k))
  side_stays t j k = side_grows (after t k) (after t (j + k)) (stays t j k)

  abbrev Sound : Syntax → Type 0
  Sound t = Reached (worth f t) (after t)

  sound_names : (n : Name) → Sound (Called n)
  unfolding worth
  sound_names n w e = h n w e

  sound_numbers : (n : ℕ) → Sound (Numeral n)
  unfolding worth
  sound_numbers n w e = (0, e)

  sound_parts : (ts : Syntaxes) → EachPhrase Sound ts → Reached (worths f ts) (all_after ts)
  unfolding worths
  sound_parts NoSyntax k ws e = (0, e)
  sound_parts (MoreSyntax t ts) k ws e =
      bind_reached (worth f t) (after t) (λ w. worths f ts >>= λ ws. some_of (w ∷ ws)) (λ w k. all_after ts k >>= λ ws. some_of (w ∷ ws)) (stays t) k.0
      (λ w. bind_stays (all_after ts) (λ ws. some_of (w ∷ ws)) (all_stay ts))
      (λ w. bind_reached (worths f ts) (all_after ts) (λ ws. some_of (w ∷ ws)) (λ ws k. some_of (w ∷ ws)) (all_stay ts) (sound_parts ts k.1) (λ ws. fixed_stays (some_of (w ∷ ws))) (λ ws. fixed_reached (some_of (w ∷ ws))))
      ws e

  sound_node : (form : Form) (ts : Syntaxes) → Parted form ts → EachPhrase Sound ts → Sound (Node form ts)
  sound_node _ _ (by_if c t u) k w e =
      let (i, a) = chosen_reached (worth f c) (worth f t) (worth f u) (after c) (after t) (after u) (stays c) k.0 (stays t) k.1.0 (stays u) k.1.1.0 w (sym (if_is f c t u) ∙ e) in
      (i, if_is (known_in es i) c t u ∙ a)
  sound_node _ _ (by_and t u) k w e =
      let no = some_of (truth false) in
      let (i, a) = chosen_reached (worth f t) (truth_only (worth f u)) no (after t) (λ k. truth_only (after u k)) (λ k. no) (stays t) k.0 (side_stays u) (side_reached (worth f u) (after u) (stays u) k.1.0) (fixed_stays no) (fixed_reached no) w (sym (and_is f t u) ∙ e) in
      (i, and_is (known_in es i) t u ∙ a)
  sound_node _ _ (by_or t u) k w e =
      let yes = some_of (truth true) in
      let (i, a) = chosen_reached (worth f t) yes (truth_only (worth f u)) (after t) (λ k. yes) (λ k. truth_only (after u k)) (stays t) k.0 (fixed_stays yes) (fixed_reached yes) (side_stays u) (side_reached (worth f u) (after u) (stays u) k.1.0) w (sym (or_is f t u) ∙ e) in
      (i, or_is (known_in es i) t u ∙ a)
  sound_node _ _ (by_all form ts is) k w e =
      let (i, a) = bind_reached (worths f ts) (all_after ts) (λ ws. formed form ws) (λ ws k. formed form ws) (all_stay ts) (sound_parts ts k) (λ ws. fixed_stays (formed form ws)) (λ ws. fixed_reached (formed form ws)) w (sym (is f) ∙ e) in
      (i, is (known_in es i) ∙ a)

  sound_worth : (t : Syntax) (w : Worth) → worth f t ≡ Some w → (k : ℕ) × (worth (known_in es k) t ≡ Some w)
  sound_worth t = by_parts Sound sound_names sound_numbers (λ form ts k. sound_node form ts (parted form ts) k) t

sound_of : (es : List Entry) (f : Known) → IsReached es f → (n : Name) (m : Meaning) (w : Worth) → worth_of f n m ≡ Some w → (k : ℕ) × (worth_of (known_in es k) n m ≡ Some w)
unfolding worth_of
sound_of es f h n (channel ts) w e = absurd cc
sound_of es f h n (datatype cs) w e = (0, e)
sound_of es f h n constant_name w e = (0, e)
sound_of es f h n (definition t) w e = sound_worth es f h t w e
sound_of es f h n (parametric xs t) w e = absurd cc

-- what the next step says of a sound table is sound
pub sound_step : (es : List Entry) (f : Known) → IsReached es f → IsReached es (next_known es f)
unfolding next_known known_in
sound_step es f h n w e =
    let (m, a, b) = bind_some (meaning es n) (worth_of f n) w e in
    let (k, c) = sound_of es f h n m w b in
    (suc k, bind_is (meaning es n) (worth_of (known_in es k) n) m w a c)

-- where no step says more, all is known
pub all_known : (es : List Entry) (f : Known) → IsWithin (next_known es f) f → (k : ℕ) → IsWithin (known_in es k) f
unfolding next_known known_in
all_known es f h zero n w e = absurd cc
all_known es f h (suc k) n w e = h n w (step_grows es (known_in es k) f (all_known es f h k) n w e)

-- so such a table says what the names stand for
pub stands_by_steps : (es : List Entry) (f : Known) → IsReached es f → IsWithin (next_known es f) f → Stands es f
stands_by_steps es f h closed = λ n w. (h n w, λ p. all_known es f closed p.0 n w p.1)
