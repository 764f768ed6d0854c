use Rattle.bundle.proofs.Whole.{too_long, walked}
use Rattle.bundle.proofs.judge_bundle.Goals as goal

pub returns-then-input-gt-BUNDLE_MOST : goal.returns-then-input-gt-BUNDLE_MOST
returns-then-input-gt-BUNDLE_MOST c = too_long _ _ c.if-room-lt-ENOUGH.false c.if-input-gt-BUNDLE_MOST.true c.put_at.ensures

pub returns : goal.returns
returns c = walked _ _ c.if-room-lt-ENOUGH.false c.if-input-gt-BUNDLE_MOST.false c.walk.ensures
