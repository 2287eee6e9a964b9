-- What the way of a walk or of a taking leaves, and what goes on behind it.
use Rattle.trio_walk.proofs.Words.{◌++◌, ◌∙◌, ◌≡◌, ArePossible, Ask, BusyGrant, Call, Calls, Denied, DeskSeen, Err, Exists, Grant, GrantKind, Holder, In, In-cases, IntoItself, IsDir, IsOn, Lease, List, Met, NoInodes, NoSpace, NotDir, NotEmpty, NotFound, NotLent, Outcome, Replied, SessionSeen, TooLarge, Took, Told, Way, [], ap, append-nil, append_assoc, in_hand, inl, inr, lent_call, map, refl, subst, sym, IsLink, NotLink}
use Rattle.trio_desk.specs.Edits.{TakesMore}
use Rattle.trio_session.specs.Asked.{IsAlike, SameDesk, took}
use Rattle.trio_session.proofs.Alike.{alike_then, same_back, same_then}
use Rattle.trio_nodes.specs.declared.call.Reply.TheVariants.{Ok as Succeeds}
use Rattle.trio_walk.specs.Tries.{BusyAt, LeavesUnnoted, Passes}
use Rattle.trio_walk.specs.declared.outcome.Outcome.TheVariants.{Busy, NoMemory}
use Rattle.trio_walk.specs.declared.walks.WalkEnd.TheVariants.{Busy as IsBusyWalk}
use Rattle.trio_walk.proofs.Possible.{calls_same, moment_possible, possible_before, stays_many}
use Rattle.trio_walk.proofs.Then.{calls_then, given_all, possible_then, took_leases}

-- From a desk and a session to these so it passes, and nothing was written or allotted.
pub record Went {D : Type 0} (called : D → Ask → Told → D → Type 0) (seen : D → DeskSeen) (d : D) (s : SessionSeen) (given last : List Call) (d' : D) (s' : SessionSeen) : Type 0 where
  pub passes : Passes called seen d s given last d' s'
  pub alike : IsAlike (took s (map (λ (c : Call). c.told) given)) s'
  pub pages : s'.parcel.pages ≡ s.parcel.pages
  pub inodes : s'.parcel.inodes ≡ s.parcel.inodes

-- what a try leaves goes by neither indexes nor room, where its edit doesn't
pub leaves_alike : (edit : SessionSeen → SessionSeen) → ((x y : SessionSeen) → IsAlike x y → IsAlike (edit x) (edit y)) → (x y s' : SessionSeen) (end : Outcome) → IsAlike x y → LeavesUnnoted edit y end s' → LeavesUnnoted edit x end s'
leaves_alike edit alike x y s' (Replied (Succeeds answer)) e h = alike_then (edit x) (edit y) s' (alike x y e) h
leaves_alike edit alike x y s' (Replied NotFound) e h = alike_then x y s' e h
leaves_alike edit alike x y s' (Replied Exists) e h = alike_then x y s' e h
leaves_alike edit alike x y s' (Replied NotDir) e h = alike_then x y s' e h
leaves_alike edit alike x y s' (Replied IsDir) e h = alike_then x y s' e h
leaves_alike edit alike x y s' (Replied NotEmpty) e h = alike_then x y s' e h
leaves_alike edit alike x y s' (Replied Denied) e h = alike_then x y s' e h
leaves_alike edit alike x y s' (Replied IntoItself) e h = alike_then x y s' e h
leaves_alike edit alike x y s' (Replied (NoSpace w f)) e h = alike_then x y s' e h
leaves_alike edit alike x y s' (Replied (NoInodes w f)) e h = alike_then x y s' e h
leaves_alike edit alike x y s' (Replied TooLarge) e h = alike_then x y s' e h
leaves_alike edit alike x y s' (Replied IsLink) e h = alike_then x y s' e h
leaves_alike edit alike x y s' (Replied NotLink) e h = alike_then x y s' e h
leaves_alike edit alike x y s' (Busy holder) e h = alike_then x y s' e h
leaves_alike edit alike x y s' NoMemory e h = alike_then x y s' e h

-- ---- one after the other

module _ {D : Type 0} (called : D → Ask → Told → D → Type 0) (seen : D → DeskSeen) (d : D) (s : SessionSeen) where
  -- nothing was asked
  pub passes_by : (s' : SessionSeen) → s'.calls ≡ s.calls → TakesMore (seen d) (in_hand s) (in_hand s') → Passes called seen d s [] [] d s'
  passes_by s' calls more = record { each = λ c i. absurd i; made = refl; calls = calls; same = record { lib = refl; creds = refl; sizes = refl; root = refl }; more = more }

  pub passes_none : (s' : SessionSeen) → IsAlike s s' → Passes called seen d s [] [] d s'
  passes_none s' e = passes_by s' (ap (λ (q : SessionSeen). q.calls) e) (λ nodes rows p. subst (λ (q : SessionSeen). ArePossible (seen d) q.parcel q.reads nodes rows) e p)

  pub went_none : (s' : SessionSeen) → IsAlike s s' → Went called seen d s [] [] d s'
  went_none s' e = record { passes = passes_none s' e; alike = e; pages = ap (λ (q : SessionSeen). q.parcel.pages) e; inodes = ap (λ (q : SessionSeen). q.parcel.inodes) e }

  module _ (given last : List Call) (d' : D) (s' s2 : SessionSeen) (e : IsAlike s' s2) where
    -- so it passes to a session that is alike
    pub passes_alike : Passes called seen d s given last d' s' → Passes called seen d s given last d' s2
    passes_alike p = record {
      each = p.each;
      made = p.made;
      calls = ap (λ (q : SessionSeen). q.calls) e ∙ p.calls;
      same = p.same;
      more = λ nodes rows q. p.more nodes rows (subst (λ (x : SessionSeen). ArePossible (seen d') x.parcel x.reads nodes rows) e q);
    }

    pub went_alike : Went called seen d s given last d' s' → Went called seen d s given last d' s2
    went_alike w = record {
      passes = passes_alike w.passes;
      alike = alike_then (took s (map (λ (c : Call). c.told) given)) s' s2 w.alike e;
      pages = ap (λ (q : SessionSeen). q.parcel.pages) e ∙ w.pages;
      inodes = ap (λ (q : SessionSeen). q.parcel.inodes) e ∙ w.inodes;
    }

  -- what goes on after calls that were given goes with them
  pub passes_then : (d1 d' : D) (s1 s' : SessionSeen) (given more last : List Call) → Passes called seen d s given [] d1 s1 → Passes called seen d1 s1 more last d' s' → Passes called seen d s (given ++ more) last d' s'
  passes_then d1 d' s1 s' given more last p q = record {
    each = λ c i. elim (In-cases c given more i) [ inl a ↦ p.each c a | inr b ↦ q.each c b ];
    made = subst (λ cs. Calls called d cs d') (sym (append_assoc given more last)) (calls_then called d d1 d' given (more ++ last) (subst (λ cs. Calls called d cs d1) (append-nil given) p.made) q.made);
    calls = q.calls ∙ p.calls;
    same = same_then (seen d) (seen d1) (seen d') p.same q.same;
    more = λ nodes rows r.
        possible_then (seen d') (seen d1) s (same_back (seen d1) (seen d') q.same) nodes rows (p.more nodes rows (possible_then (seen d1) (seen d') s1 q.same nodes rows (q.more nodes rows r)));
  }

-- ---- a way

module _ {D : Type 0} (called : D → Ask → Told → D → Type 0) (seen : D → DeskSeen) (d : D) (s : SessionSeen) (more : List Lease) (last : List Call) (d1 : D) (s1 : SessionSeen) (way : Way called seen d s more last d1 s1) where
  pub way_same : SameDesk (seen d) (seen d1)
  way_same = record { lib = way.lib; creds = way.creds; sizes = way.sizes; root = way.root }

  pub way_calls : s1.calls ≡ s.calls
  way_calls = calls_same (seen d) (seen d1) s s1 more way.took

  pub way_more : TakesMore (seen d1) (in_hand s) (in_hand s1)
  way_more nodes rows p = possible_before (seen d1) (seen d1) s s1 more way.took nodes rows refl refl p

  pub way_went : Went called seen d s (map lent_call more) last d1 s1
  way_went = record {
    passes = record { each = given_all more; made = way.made; calls = way_calls; same = way_same; more = way_more };
    alike = subst (λ (y : SessionSeen). IsAlike y s1) (sym (took_leases s more)) way.took.same;
    pages = ap (λ (y : SessionSeen). y.parcel.pages) way.took.same ∙ (stays_many more s).pages;
    inodes = ap (λ (y : SessionSeen). y.parcel.inodes) way.took.same ∙ (stays_many more s).inodes;
  }

-- where the library itself keeps a file busy that is to be taken, a grant of the session's does
pub took_busy : {D : Type 0} (called : D → Ask → Told → D → Type 0) (seen : D → DeskSeen) (d : D) (s : SessionSeen) (m : Met) (kind : GrantKind) → IsOn (seen d) s → (d1 : D) (s1 : SessionSeen) (holder : Holder)
    → Took called seen d s m kind (Err (IsBusyWalk holder)) d1 s1 → BusyAt (seen d) s m.ino kind (Busy holder)
took_busy called seen d s m kind on d1 s1 holder t = λ mine. record {
  busy = t.way.others m.ino kind holder (subst (λ l. In (record { ask = Grant m.ino kind; told = NotLent (BusyGrant holder) }) l) (sym t.taken.1) (inl refl)) mine;
  nodes = t.taken.3.moment.nodes;
  rows = t.taken.3.moment.rows;
  possible = moment_possible (seen d) s on t.taken.3.moment;
}
