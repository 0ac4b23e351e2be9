-- It owns nothing, so it may go to another thread.
use denote.RattleType.{RattleType}
use denote.Param.Send.{IsSend, owning_send, sendable}
use Rattle.past.specs.contracts.Past.{the_row, the_type}

pub send : (Y : RattleType) → IsSend Y → IsSend (the_row Y)
send Y y = owning_send (the_type Y) (search sendable, tt) (λ d. tt) (λ k x w. tt)
