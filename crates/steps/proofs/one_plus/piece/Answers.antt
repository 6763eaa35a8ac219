-- What the machine adds to is d's bits.
use Rattle.std.proofs.Common.{arith, to_z-of_z}
use Rattle.steps.proofs.Pieces.{piece_near, piece_far}
use Rattle.steps.proofs.one_plus.piece.Goals as goal

pub returns-then-near : goal.returns-then-near
returns-then-near c =
    piece_near c.args.d c.cast_unsigned.result (cc (to_z-of_z c.ranges.d)) c.requires (omega arith)

pub returns-else-near : goal.returns-else-near
returns-else-near c =
    piece_far c.args.d c.cast_unsigned.result (cc (to_z-of_z c.ranges.d)) c.requires (omega arith)
