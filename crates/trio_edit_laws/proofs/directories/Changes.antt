-- An edit of slots of directories changes the nodes that are shown, and the session may go on.
use Rattle.trio_edit_laws.proofs.Words.{Becomes, Changes, DeskSeen, IsView, List, MayEdit, MayShow, Nodes, Option, Row, SessionSeen, Shows, StaysTree, in_hand, parcel_case, ℕ}
use Rattle.trio_edit_laws.proofs.HandStays.{in_order, takes_more}
use Rattle.trio_edit_laws.proofs.directories.After.{OthersStay, Rewrites, keeps_judged}
use Rattle.trio_edit_laws.proofs.directories.Stays.{EditsDirs, hand_stays, may_then}

-- the slots that are written, and what they show
pub record Turns (desk : DeskSeen) (s s' : SessionSeen) (n' : ℕ) (nodes nodes' : Nodes) (rows : List (Option Row)) (change : Nodes → Nodes) : Type 0 where
  pub rewrites : Rewrites desk s s' n' nodes
  pub shows : Shows (parcel_case desk.sizes desk.creds rows s'.parcel) nodes (change nodes')

pub changes_by : (desk : DeskSeen) (s s' : SessionSeen) (n : ℕ) (change : Nodes → Nodes) → MayEdit desk s → EditsDirs desk s s' → OthersStay s s' n
    → ((nodes nodes' : Nodes) (rows : List (Option Row)) → IsView desk (in_hand s) (in_hand s') nodes nodes' rows → Turns desk s s' n nodes nodes' rows change)
    → StaysTree desk s s' change → Changes desk s s' change
changes_by desk s s' n change m e others turns tree =
    let view : (nodes nodes' : Nodes) (rows : List (Option Row)) → MayShow desk (in_hand s) (in_hand s') nodes nodes' rows → IsView desk (in_hand s) (in_hand s') nodes nodes' rows =
    λ nodes nodes' rows may. record { order = m.order; more = takes_more desk s s' m (hand_stays s s' e.writes); shows = may } in
    let b : Becomes desk (in_hand s) (in_hand s') change = record {
      more = takes_more desk s s' m (hand_stays s s' e.writes);
      shows = λ nodes nodes' rows may. (turns nodes nodes' rows (view nodes nodes' rows may)).shows;
      tree = tree;
      order = in_order desk s s' m (hand_stays s s' e.writes);
    } in
    record {
      becomes = b;
      may = may_then desk s s' m e change b (keeps_judged desk s s' n m e.writes others (λ nodes nodes' rows v. (turns nodes nodes' rows v).rewrites));
    }
