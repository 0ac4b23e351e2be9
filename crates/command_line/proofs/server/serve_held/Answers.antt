use denote.Param.Send.{sendable}
use Rattle.std.proofs.Crossing.{crosses}
use Rattle.std.proofs.net.tcp.TcpStream.TheSendSync as tcp
use Rattle.std.proofs.net.unix.UnixStream.TheSendSync as unix
use Rattle.command_line.proofs.server.serve_held.Goals as goal

pub serve_through-requires-send-D-Accept-Reader : goal.serve_through-requires-send-D-Accept-Reader
serve_through-requires-send-D-Accept-Reader g c κs within = search (sendable, crosses, tcp.the_send) depth 20

pub serve_through-requires-send-D-Accept-Writer : goal.serve_through-requires-send-D-Accept-Writer
serve_through-requires-send-D-Accept-Writer g c κs within = search (sendable, crosses, tcp.the_send) depth 20

pub serve_through-requires-in-Unix-send-D-Accept-Reader : goal.serve_through-requires-in-Unix-send-D-Accept-Reader
serve_through-requires-in-Unix-send-D-Accept-Reader g c κs within = search (sendable, crosses, unix.the_send) depth 20

pub serve_through-requires-in-Unix-send-D-Accept-Writer : goal.serve_through-requires-in-Unix-send-D-Accept-Writer
serve_through-requires-in-Unix-send-D-Accept-Writer g c κs within = search (sendable, crosses, unix.the_send) depth 20
