use Rattle.std.proofs.Common.{rules}
use Rattle.records_request.specs.Reading.{peer_at, digest_at, rate_at, extras_at}
use Rattle.records_request.proofs.extras_at.Goals as goal

pub returns-in_err-rate : goal.returns-in_err-rate
unfolding extras_at
returns-in_err-rate c =
    let s = c.args.s.now in
    let peer = c.in_ok-peer.ensures (peer_at s c.args.at) (λ answer is. search rules) in
    let digest = c.in_ok-digest.ensures (digest_at s c.in_ok-peer.p) (λ answer is. search rules) in
    let rate = c.in_err-rate.ensures (rate_at s c.in_ok-digest.q) (λ answer is. search rules) in
    rw (← peer, ← digest, ← rate) c.from_residual-in_err-rate.ensures

pub returns : goal.returns
unfolding extras_at
returns c =
    let s = c.args.s.now in
    let peer = c.in_ok-peer.ensures (peer_at s c.args.at) (λ answer is. search rules) in
    let digest = c.in_ok-digest.ensures (digest_at s c.in_ok-peer.p) (λ answer is. search rules) in
    let rate = c.in_ok-rate.ensures (rate_at s c.in_ok-digest.q) (λ answer is. search rules) in
    rw (← peer, ← digest, ← rate)
