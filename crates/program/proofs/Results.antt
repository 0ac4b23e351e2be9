-- What follows of a result of either kind.
use Rattle.std.specs.Prelude.{Result, Ok, Err, IfOk, IfErr, MatchResult}

pub match_from : {A E : Type 0} (o : Result A E) (P Q : A → Type 0) (R S : E → Type 0) → ((a : A) → P a → Q a) → ((e : E) → R e → S e) → IfOk o P → IfErr o R → MatchResult o Q S
match_from (Ok a) P Q R S f g p r = f a p
match_from (Err e) P Q R S f g p r = g e r
