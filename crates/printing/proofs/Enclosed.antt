-- Printed processes with and without the brackets round them.
use Rattle.std.proofs.Common.{◌≡◌, ℕ, List, ◌++◌, map, true, false, cond, codes, Result, Ok, Err, OnOk, refl, sym, ap, ◌∙◌, append_assoc}
use Rattle.std.specs.Result.{is_ok}
use Rattle.alphabet.specs.declared.events.Event.TheVariants.{Of as ev}
use Rattle.alphabet.specs.Channels.{Channel, name_of}
use Rattle.term.specs.Proc.{Proc, stop, skip, prefix, ext, int, seq, par, hide, ren, intr, name}
use Rattle.printing.specs.Printed.{joined, set_text, shared_text, pair_text, operation, process_text}
use Rattle.printing.specs.Inside.{has_brackets, inside}

closed : (l b r : List ℕ) → operation l b r ≡ codes "(" ++ (l ++ b ++ r) ++ codes ")"
closed l b r = refl

module _ (cs : List Channel) (primes : ℕ) where
  pub bracketed : (P : Proc) → has_brackets P ≡ true → process_text cs primes P ≡ codes "(" ++ inside cs primes P ++ codes ")"
  unfolding process_text inside has_brackets
  bracketed stop h = absurd cc
  bracketed skip h = absurd cc
  bracketed (name k) h = absurd cc
  bracketed (prefix a P) h = closed (name_of cs (ev a)) (codes " -> ") (process_text cs primes P)
  bracketed (ext P Q) h = closed (process_text cs primes P) (codes " [] ") (process_text cs primes Q)
  bracketed (int P Q) h = closed (process_text cs primes P) (codes " |~| ") (process_text cs primes Q)
  bracketed (seq P Q) h = closed (process_text cs primes P) (codes " ; ") (process_text cs primes Q)
  bracketed (par A P Q) h = closed (process_text cs primes P) (shared_text cs A) (process_text cs primes Q)
  bracketed (hide A P) h = closed (process_text cs primes P) (codes " \\ ") (set_text cs A)
  bracketed (ren R P) h =
      closed (process_text cs primes P) (codes " [[") (joined (codes ", ") (map (pair_text cs) R) ++ codes "]]")
      ∙ ap (λ t. codes "(" ++ t ++ codes ")") (sym (append_assoc (process_text cs primes P ++ codes " [[") (joined (codes ", ") (map (pair_text cs) R)) (codes "]]")))
  bracketed (intr P Q) h = closed (process_text cs primes P) (codes " /\\ ") (process_text cs primes Q)

  pub unbracketed : (P : Proc) → has_brackets P ≡ false → process_text cs primes P ≡ inside cs primes P
  unfolding process_text inside has_brackets
  unbracketed stop h = refl
  unbracketed skip h = refl
  unbracketed (name k) h = refl
  unbracketed (prefix a P) h = absurd cc
  unbracketed P h = absurd cc

  -- a text that grows by a bracket, by what stands in the brackets and by a bracket
  pub enclosed : (P : Proc) (start opened filled whole : List ℕ) → has_brackets P ≡ true → opened ≡ start ++ codes "(" → filled ≡ opened ++ inside cs primes P → whole ≡ filled ++ codes ")" → whole ≡ start ++ process_text cs primes P
  enclosed P start opened filled whole h a b c =
      c
      ∙ ap (λ t. t ++ codes ")") (b ∙ ap (λ t. t ++ inside cs primes P) a)
      ∙ ap (λ t. t ++ codes ")") (append_assoc start (codes "(") (inside cs primes P))
      ∙ append_assoc start (codes "(" ++ inside cs primes P) (codes ")")
      ∙ ap (λ t. start ++ t) (sym (bracketed P h))

  -- a text that grows by a process without brackets
  pub unenclosed : (P : Proc) (start new : List ℕ) → has_brackets P ≡ false → new ≡ start ++ inside cs primes P → new ≡ start ++ process_text cs primes P
  unenclosed P start new h a = a ∙ ap (λ t. start ++ t) (sym (unbracketed P h))

-- what a last text appends, where it was appended
pub on_items : {T E : Type 0} (r : Result T E) (new old more whole : List ℕ) → new ≡ cond (is_ok r) (old ++ more) old → (new ≡ old ++ more → new ≡ whole) → OnOk r (new ≡ whole)
on_items (Ok x) new old more whole h f = f h
on_items (Err e) new old more whole h f = tt
