-- The rounds of the closure: a level each.
use Rattle.std.proofs.Common.{◌≡◌, ℕ, suc, ◌≤◌, inl, inr, List, ◌++◌, length, take, drop, sym, ap, ◌∙◌, subst, arith}
use Rattle.std.proofs.lemmas.List.{take-append-drop, length-append, take_all}
use Rattle.std.proofs.Math.Seq.{take-append_seam, drop-append_seam}
use Rattle.std.proofs.Math.ListN.{drop_of_length-le}
use Rattle.term.specs.Proc.{Proc, bodies_of}
use Rattle.term.specs.Specs.{Specified, IsClosed}
use Rattle.term.specs.Limits.{Terms, Distinct, most_states}
use Rattle.targets.specs.declared.labels.Label.TheVariants as label
use Rattle.tau_closures.specs.declared.fault.AfterFault.{AfterFault}
use Rattle.tau_closures.specs.Belonging.{MeetsLimit}
use Rattle.tau_closures.specs.Closing.{Among, AllLie, Opens, Grows, IsStuck, IsClosure}
use Rattle.tau_closures.proofs.Levels.{IsLevel, level-stuck, level-next, level-end}
use Rattle.tau_closures.proofs.Keeping.{step-lies}
use Rattle.tau_closures.proofs.Lists.{In-drop}

-- the list is that of a level, whose processes before `from` were expanded
pub record IsRound (s : Specified) (L : Terms) (all : List Proc) (from : ℕ) : Type 0 where
  pub place : from ≤ length all
  pub lies : AllLie s all
  pub level : (k : ℕ) × IsLevel (bodies_of s.bodies) L (take from all) (drop from all) k

pub round-begins : (s : Specified) (first : List Proc) → Opens s first → IsRound s (Among first) first 0
round-begins s first o =
    record {
      place = omega arith;
      lies = o.lies;
      level = (
        0,
        record {
          only = λ Q i. i;
          all = λ Q l. l;
          start = λ Q l. l;
          once = o.once;
          few = o.few;
          shallow = o.shallow;
          before = λ j h. absurd (omega arith);
          closed = λ P Q i d. elim i [ ];
        },
      );
    }

module _ (s : Specified) (L : Terms) (all : List Proc) (from : ℕ) (r : IsRound s L all from) where
  whole : take from all ++ drop from all ≡ all
  whole = take-append-drop from all

  pub round-once : Distinct all
  round-once = subst Distinct whole r.level.1.once

  pub round-few : length all ≤ most_states
  round-few = subst (λ l. length l ≤ most_states) whole r.level.1.few

  pub round-stuck : (e : AfterFault) → IsStuck (bodies_of s.bodies) (drop from all) all e → MeetsLimit (bodies_of s.bodies) L e
  round-stuck e h =
      level-stuck (bodies_of s.bodies) L (take from all) (drop from all) r.level.0 r.level.1 e
      (subst (λ l. IsStuck (bodies_of s.bodies) (drop from all) l e) (sym whole) h)

  pub round-next : IsClosed s → (new : List Proc) → Grows (bodies_of s.bodies) (drop from all) all new → IsRound s L new (length all)
  round-next c new g =
      record {
        place = omega (arith, ap length g.more.1, length-append all g.more.0);
        lies = λ Q i. elim (g.cut.only Q i) [
          | inl j ↦ r.lies Q j
          | inr (P, j, d) ↦ step-lies s c P Q label.Tau d (r.lies P (In-drop from all P j))
        ];
        level = (
          suc r.level.0,
          subst (λ l. IsLevel (bodies_of s.bodies) L (take (length all) l) (drop (length all) l) (suc r.level.0)) (sym g.more.1)
              (subst (λ a. IsLevel (bodies_of s.bodies) L a (drop (length all) (all ++ g.more.0)) (suc r.level.0)) (sym (take-append_seam all g.more.0))
              (subst (λ b. IsLevel (bodies_of s.bodies) L all b (suc r.level.0)) (sym (drop-append_seam all g.more.0))
              (subst (λ a. IsLevel (bodies_of s.bodies) L a g.more.0 (suc r.level.0)) whole
              (level-next (bodies_of s.bodies) L (take from all) (drop from all) r.level.0 r.level.1 new g.more.0
              (g.more.1 ∙ ap (λ a. a ++ g.more.0) (sym whole))
              (subst (λ a. Grows (bodies_of s.bodies) (drop from all) a new) (sym whole) g))))),
        );
      }

  pub round-end : length all ≤ from → IsClosure (bodies_of s.bodies) L all
  round-end h =
      subst (IsClosure (bodies_of s.bodies) L) (take_all from all h)
      (level-end (bodies_of s.bodies) L (take from all) r.level.0
      (subst (λ b. IsLevel (bodies_of s.bodies) L (take from all) b r.level.0) (drop_of_length-le all h) r.level.1))
