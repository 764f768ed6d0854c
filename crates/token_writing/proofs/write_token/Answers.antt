use native.Mathlib.Omega.{arith}
use Rattle.token_writing.proofs.Whole.{refused, front_fits, back_fits, written}
use Rattle.token_writing.proofs.write_token.Goals as goal

pub returns-then-room-token_length : goal.returns-then-room-token_length
returns-then-room-token_length c =
    refused c.args.count c.args.caveats.now c.args.caveat.now c.args.parts c.args.room.now c.saturating_add-all.ensures c.token_length.ensures
    c.if-room-token_length.true

pub put_front-p-requires : goal.put_front-p-requires
put_front-p-requires c =
    front_fits c.args.count c.args.caveats.now c.args.caveat.now c.args.parts c.args.room.now c.saturating_add-all.ensures c.token_length.ensures
    c.if-room-token_length.false
    (omega (arith, c.well_formed.1.1.1.1.0.1))

pub put_back-requires : goal.put_back-requires
put_back-requires c =
    back_fits c.args.count c.args.caveats.now c.args.caveat.now c.args.parts c.args.room.now c.saturating_add-all.ensures c.token_length.ensures
    c.if-room-token_length.false
    (omega (arith, c.well_formed.1.1.1.1.0.1))
    c.put_front-p.ensures

pub returns : goal.returns
returns c =
    written c.args.count c.args.caveats.now c.args.caveat.now c.args.parts c.args.room.now c.saturating_add-all.ensures c.token_length.ensures
    c.if-room-token_length.false
    (omega (arith, c.well_formed.1.1.1.1.0.1))
    c.put_front-p.ensures
    c.put_back.ensures
