-- Every statement of specs/Demands.antt with its proof, in the order of the page.
use Rattle.bhinorpa.specs.Demands.{VerifyList, IssueList, NarrowList, RefusalWritesNothing}
use Rattle.bhinorpa.specs.Demands.{AllowedExactly, FirstFailing, VerdictOne, DefectNoToken}
use Rattle.bhinorpa.specs.Demands.{IssueFirstFailing, IssueVerdictOne, IdsOfRows, IssueRefusals, NarrowFirstFailing, NarrowVerdictOne}
use Rattle.bhinorpa.specs.Demands.{IssueWrites, NarrowWrites, Rebuilt, RoomEnough, NarrowingExact, NarrowingRefusals, FirstBits, NoPeer, FitsExactly, FitsNarrows}
use Rattle.bhinorpa.specs.Demands.{CleanExactly, FitsSegments}
use Rattle.cbor_strings.proofs.PathLaws as paths
use Rattle.rules_compare.proofs.FittingLaws as fitting
use Rattle.rules_compare.proofs.SegmentLaws as segments
use Rattle.bhinorpa.proofs.Rooms as rooms
use Rattle.bhinorpa.proofs.Texts as texts
use Rattle.bhinorpa.proofs.DemandsVerify as verify
use Rattle.bhinorpa.proofs.DemandsIssue as issue
use Rattle.bhinorpa.proofs.DemandsNarrow as narrow
use Rattle.bhinorpa.proofs.DemandsNarrowing as narrowing
use Rattle.bhinorpa.proofs.DemandsRebuilt as rebuilding

pub record Demands : Type 0 where
  pub verify_list : VerifyList
  pub issue_list : IssueList
  pub narrow_list : NarrowList
  pub refusal_writes_nothing : RefusalWritesNothing
  pub allowed_exactly : AllowedExactly
  pub first_failing : FirstFailing
  pub verdict_one : VerdictOne
  pub defect_no_token : DefectNoToken
  pub issue_first_failing : IssueFirstFailing
  pub issue_verdict_one : IssueVerdictOne
  pub ids_of_rows : IdsOfRows
  pub issue_refusals : IssueRefusals
  pub narrow_first_failing : NarrowFirstFailing
  pub narrow_verdict_one : NarrowVerdictOne
  pub issue_writes : IssueWrites
  pub narrow_writes : NarrowWrites
  pub rebuilt : Rebuilt
  pub room_enough : RoomEnough
  pub narrowing_exact : NarrowingExact
  pub narrowing_refusals : NarrowingRefusals
  pub first_bits : FirstBits
  pub no_peer : NoPeer
  pub fits_exactly : FitsExactly
  pub fits_narrows : FitsNarrows
  pub clean_exactly : CleanExactly
  pub fits_segments : FitsSegments

pub demands : Demands
demands = record {
  verify_list = verify.verify_list;
  issue_list = issue.issue_list;
  narrow_list = narrow.narrow_list;
  refusal_writes_nothing = rooms.refusal_writes_nothing;
  allowed_exactly = verify.allowed_exactly;
  first_failing = verify.first_failing;
  verdict_one = verify.verdict_one;
  defect_no_token = texts.defect_no_token;
  issue_first_failing = issue.issue_first_failing;
  issue_verdict_one = issue.issue_verdict_one;
  ids_of_rows = issue.ids_of_rows;
  issue_refusals = issue.issue_refusals;
  narrow_first_failing = narrow.narrow_first_failing;
  narrow_verdict_one = narrow.narrow_verdict_one;
  issue_writes = issue.issue_writes;
  narrow_writes = narrow.narrow_writes;
  rebuilt = rebuilding.rebuilt;
  room_enough = rebuilding.room_enough;
  narrowing_exact = narrowing.narrowing_exact;
  narrowing_refusals = narrow.narrowing_refusals;
  first_bits = verify.first_bits;
  no_peer = verify.no_peer;
  fits_exactly = fitting.fits_exactly;
  fits_narrows = fitting.fits_narrows;
  clean_exactly = paths.clean_exactly;
  fits_segments = segments.fits_segments;
}
