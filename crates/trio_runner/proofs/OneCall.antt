-- Two calls of alike sessions come to the same, where two tries do: the tries one after another, and the settles between them.
use Rattle.trio_runner.proofs.Words.{◌++◌, ◌∙◌, ◌∷◌, ◌≡◌, ◌≢◌, Again, AreMoves, ArePossible, Ask, AskedBy, Busy, Call, Called, Creds, GivesUp, Holder, In, In-cases, IsAlike, IsNotBusy, LeftOut, LibNo, List, MayCall, NoMemory, Nodes, Noted, Notes, Once, Outcome, Parcel, Replied, SessionSeen, Settle, Settled, Settles, Shown, State, Tried, Unsettled, [], alike_back, answer_of, ap, apart, back_call, batch_nodes, creds_of, emptied, inl, inr, known, map, map-In, nodes_of, out_of, sees, subst, sym, took}
use Rattle.trio_nodes.specs.declared.call.Done as done
use Rattle.trio_state.specs.Step as step
use Rattle.trio_runner.proofs.OneTry.{Carried, OneGoing, final_of, one_going, part_of, tried_carried}
use Rattle.trio_runner.proofs.SameAnswers.{calls_known}
use Rattle.trio_runner.proofs.SameNodes.{HasOut, StandsTrue, moves_true, possible_here}
use Rattle.trio_runner.proofs.Sessions.{settle_plain}
use Rattle.trio_session.proofs.Alike.{alike_then}

-- ---- alike sessions

-- the same but for its room
pub room_alike : (z w : SessionSeen) → w ≡ record z { room = w.room } → IsAlike z w
room_alike z w e = e ∙ sym (ap (λ (q : SessionSeen). record z { indexed = q.indexed; finds = q.finds; room = w.room }) e)

pub alike_both : (x y x' y' : SessionSeen) → IsAlike x y → IsAlike x x' → IsAlike y y' → IsAlike x' y'
alike_both x y x' y' e a b = alike_then x' x y' (alike_back x x' a) (alike_then x y y' e b)

-- ---- settles

settle_some : (parcel : Parcel) (back : List Shown) (calls : List done.Done) (c : Call) → In c (apart (Settle parcel back calls) Settled) → answer_of c.told ≢ step.NoMemory
settle_some parcel back calls c i =
    elim (In-cases c (map back_call back) (record { ask = Settle parcel [] calls; told = Settled } ∷ []) i) [
      | inl j ↦ (λ w. (let m = map-In back_call c back j in let wrong : step.Done ≡ step.NoMemory = ap (λ (x : Call). answer_of x.told) (sym m.2) ∙ w in cc wrong))
      | inr j ↦ elim j [
        | inl e ↦ (λ w. (let wrong : step.Settled ≡ step.NoMemory = ap (λ (x : Call). answer_of x.told) (sym e) ∙ w in cc wrong))
        | inr none ↦ absurd none
      ]
    ]

-- two settles come to the same
pub record OneSettle (d' e' : Noted) (x' y' : SessionSeen) : Type 0 where
  pub alike : IsAlike x' y'
  pub known_same : known d'.state ≡ known e'.state
  pub true : StandsTrue d'.state
  pub true' : StandsTrue e'.state

pub one_settle : (lib : LibNo) (d e d' e' : Noted) (x y x' y' : SessionSeen) → StandsTrue d.state → StandsTrue e.state → known d.state ≡ known e.state → IsAlike x y → Settles (Notes lib) d x d' x' → Settles (Notes lib) e y e' y' → OneSettle d' e' x' y'
one_settle lib d e d' e' x y x' y' hd he same like t u =
    let ask : Ask = Settle x.parcel x.reads x.calls in
    let plain = settle_plain x.parcel x.reads x.calls in
    let asked : Settle y.parcel y.reads y.calls ≡ ask = ap (λ (q : SessionSeen). Settle q.parcel q.reads q.calls) like in
    let moved : AreMoves lib e.state (apart ask Settled) u.made.more e'.state = subst (λ a. AreMoves lib e.state (apart a Settled) u.made.more e'.state) asked u.made.are_moves in
    record {
      alike = alike_both (emptied x) (emptied y) x' y' (ap emptied like) (room_alike (emptied x) x' t.empty) (room_alike (emptied y) y' u.empty);
      known_same = calls_known lib (apart ask Settled) d.state e.state t.made.more u.made.more d'.state e'.state (settle_some x.parcel x.reads x.calls) plain hd.stands he.stands same t.made.are_moves moved;
      true = moves_true lib d.state (apart ask Settled) t.made.more d'.state plain hd t.made.are_moves;
      true' = moves_true lib e.state (apart ask Settled) u.made.more e'.state plain he moved;
    }

-- a session that was settled has nothing
pub settled_has : (lib : LibNo) (d d' : Noted) (x x' : SessionSeen) (s : State) → Settles (Notes lib) d x d' x' → HasOut (out_of s lib) x'
settled_has lib d d' x x' s t =
    subst (HasOut (out_of s lib)) (sym t.empty) (record { writes = λ f i. absurd i; reads = λ f i. absurd i; holds = λ h i. absurd i; numbers = λ n i. absurd i })

-- ---- the law of a try

-- an end that is told, after which a session that was replied may make calls
abbrev pub MayEnd : LibNo → Outcome → Noted → SessionSeen → Type 0
MayEnd lib (Replied answer) d x = MayCall (sees lib d) x
MayEnd lib (Busy holder) d x = Unit {0}
MayEnd lib NoMemory d x = ⊥

pub may_some : (lib : LibNo) (end : Outcome) (d : Noted) (x : SessionSeen) → MayEnd lib end d x → end ≢ NoMemory
may_some lib (Replied answer) d x may e = cc e
may_some lib (Busy holder) d x may e = cc e
may_some lib NoMemory d x may e = absurd may

-- two tries, or two calls, come to the same
pub record OneEnd (end end' : Outcome) (d' e' : Noted) (x' y' : SessionSeen) : Type 0 where
  pub end_same : end ≡ end'
  pub alike : IsAlike x' y'
  pub known_same : known d'.state ≡ known e'.state
  pub true : StandsTrue d'.state
  pub true' : StandsTrue e'.state

-- From alike sessions, all of whose things are out, on controllers of which the same is known, two tries of a call come to the same.
abbrev pub OneTry : LibNo → (Noted → SessionSeen → Outcome → Noted → SessionSeen → Type 0) → Type 0
OneTry lib Try =
    (d e d' e' : Noted) (x y x' y' : SessionSeen) (end end' : Outcome)
    → StandsTrue d.state → StandsTrue e.state → known d.state ≡ known e.state → IsAlike x y → HasOut (out_of d.state lib) x → HasOut (out_of e.state lib) y
    → MayEnd lib end d' x' → MayEnd lib end' e' y' → Try d x end d' x' → Try e y end' e' y' → OneEnd end end' d' e' x' y'

-- ---- the law of a call

pub not_busy : (holder : Holder) (end : Outcome) → IsNotBusy end → Busy holder ≡ end → ⊥
not_busy holder (Busy h) none e = none
not_busy holder (Replied answer) none e = cc e
not_busy holder NoMemory none e = cc e

module _ (lib : LibNo) (Try : Noted → SessionSeen → Outcome → Noted → SessionSeen → Type 0) (one_try : OneTry lib Try) where
  -- both are busy, and settle
  busy_both : (d e d1 e1 d2 e2 : Noted) (x y x1 y1 x2 y2 : SessionSeen) (holder holder' : Holder)
      → StandsTrue d.state → StandsTrue e.state → known d.state ≡ known e.state → IsAlike x y → HasOut (out_of d.state lib) x → HasOut (out_of e.state lib) y
      → Try d x (Busy holder) d1 x1 → Settles (Notes lib) d1 x1 d2 x2 → Try e y (Busy holder') e1 y1 → Settles (Notes lib) e1 y1 e2 y2 → (holder ≡ holder') × OneSettle d2 e2 x2 y2
  busy_both d e d1 e1 d2 e2 x y x1 y1 x2 y2 holder holder' hd he same like has has' t s t' s' =
      let a = one_try d e d1 e1 x y x1 y1 (Busy holder) (Busy holder') hd he same like has has' tt tt t t' in
      let is : Busy holder ≡ Busy holder' = a.end_same in
      (cc is, one_settle lib d1 e1 d2 e2 x1 y1 x2 y2 a.true a.true' a.known_same a.alike s s')

  -- it is the law of the one try, where the other doesn't end by it
  one_ends : (d e d1 e1 : Noted) (x y x1 y1 : SessionSeen) (end : Outcome) (holder : Holder)
      → StandsTrue d.state → StandsTrue e.state → known d.state ≡ known e.state → IsAlike x y → HasOut (out_of d.state lib) x → HasOut (out_of e.state lib) y
      → IsNotBusy end → MayEnd lib end e1 y1 → Try d x (Busy holder) d1 x1 → Try e y end e1 y1 → ⊥
  one_ends d e d1 e1 x y x1 y1 end holder hd he same like has has' real may t t' =
      not_busy holder end real (one_try d e d1 e1 x y x1 y1 (Busy holder) end hd he same like has has' tt may t t').end_same

  pub one_call : (d e d' e' : Noted) (x y x' y' : SessionSeen) (end end' : Outcome)
      → StandsTrue d.state → StandsTrue e.state → known d.state ≡ known e.state → IsAlike x y → HasOut (out_of d.state lib) x → HasOut (out_of e.state lib) y
      → MayEnd lib end d' x' → MayEnd lib end' e' y' → Called (Notes lib) Try d x end d' x' → Called (Notes lib) Try e y end' e' y' → OneEnd end end' d' e' x' y'
  one_call d e d' e' x y x' y' end end' hd he same like has has' may may' (Unsettled h d1 x1 none t u) b = absurd (may_some lib end d' x' may none)
  one_call d e d' e' x y x' y' end end' hd he same like has has' may may' (LeftOut h k d1 d2 d3 x1 x2 x3 none t u v w) b = absurd (may_some lib end d' x' may none)
  one_call d e d' e' x y x' y' end end' hd he same like has has' may may' a (Unsettled h d1 x1 none t u) = absurd (may_some lib end' e' y' may' none)
  one_call d e d' e' x y x' y' end end' hd he same like has has' may may' a (LeftOut h k d1 d2 d3 x1 x2 x3 none t u v w) = absurd (may_some lib end' e' y' may' none)
  one_call d e d' e' x y x' y' end end' hd he same like has has' may may' (Once real t) (Once real' t') = one_try d e d' e' x y x' y' end end' hd he same like has has' may may' t t'
  one_call d e d' e' x y x' y' end end' hd he same like has has' may may' (Once real t) (Again h e1 e2 y1 y2 real' t' u' v') =
      absurd (one_ends e d e1 d' y x y1 x' end h he hd (sym same) (alike_back x y like) has' has real may t' t)
  one_call d e d' e' x y x' y' end end' hd he same like has has' may may' (Once real t) (GivesUp h k e1 e2 e3 y1 y2 y3 busy other t' u' v' w') =
      absurd (one_ends e d e1 d' y x y1 x' end h he hd (sym same) (alike_back x y like) has' has real may t' t)
  one_call d e d' e' x y x' y' end end' hd he same like has has' may may' (Again h d1 d2 x1 x2 real t u v) (Once real' t') =
      absurd (one_ends d e d1 e' x y x1 y' end' h hd he same like has has' real' may' t t')
  one_call d e d' e' x y x' y' end end' hd he same like has has' may may' (GivesUp h k d1 d2 d3 x1 x2 x3 busy other t u v w) (Once real' t') =
      absurd (one_ends d e d1 e' x y x1 y' end' h hd he same like has has' real' may' t t')
  one_call d e d' e' x y x' y' end end' hd he same like has has' may may' (Again h d1 d2 x1 x2 real t u v) (Again h' e1 e2 y1 y2 real' t' u' v') =
      let s = (busy_both d e d1 e1 d2 e2 x y x1 y1 x2 y2 h h' hd he same like has has' t u t' u').1 in
      one_try d2 e2 d' e' x2 y2 x' y' end end' s.true s.true' s.known_same s.alike (settled_has lib d1 d2 x1 x2 d2.state u) (settled_has lib e1 e2 y1 y2 e2.state u') may may' v v'
  one_call d e d' e' x y x' y' end end' hd he same like has has' may may' (Again h d1 d2 x1 x2 real t u v) (GivesUp h' k' e1 e2 e3 y1 y2 y3 busy' other' t' u' v' w') =
      let s = (busy_both d e d1 e1 d2 e2 x y x1 y1 x2 y2 h h' hd he same like has has' t u t' u').1 in
      absurd (one_ends e2 d2 e3 d' y2 x2 y3 x' end k' s.true' s.true (sym s.known_same) (alike_back x2 y2 s.alike) (settled_has lib e1 e2 y1 y2 e2.state u') (settled_has lib d1 d2 x1 x2 d2.state u) real may v' v)
  one_call d e d' e' x y x' y' end end' hd he same like has has' may may' (GivesUp h k d1 d2 d3 x1 x2 x3 busy other t u v w) (Again h' e1 e2 y1 y2 real' t' u' v') =
      let s = (busy_both d e d1 e1 d2 e2 x y x1 y1 x2 y2 h h' hd he same like has has' t u t' u').1 in
      absurd (one_ends d2 e2 d3 e' x2 y2 x3 y' end' k s.true s.true' s.known_same s.alike (settled_has lib d1 d2 x1 x2 d2.state u) (settled_has lib e1 e2 y1 y2 e2.state u') real' may' v v')
  one_call d e d' e' x y x' y' end end' hd he same like has has' may may' (GivesUp h k d1 d2 d3 x1 x2 x3 busy other t u v w) (GivesUp h' k' e1 e2 e3 y1 y2 y3 busy' other' t' u' v' w') =
      let s = (busy_both d e d1 e1 d2 e2 x y x1 y1 x2 y2 h h' hd he same like has has' t u t' u').1 in
      let r = busy_both d2 e2 d3 e3 d' e' x2 y2 x3 y3 x' y' k k' s.true s.true' s.known_same s.alike (settled_has lib d1 d2 x1 x2 d2.state u) (settled_has lib e1 e2 y1 y2 e2.state u') v w v' w' in
      record { end_same = busy ∙ ap Busy r.0 ∙ sym busy'; alike = r.1.alike; known_same = r.1.known_same; true = r.1.true; true' = r.1.true' }

-- ---- what is shown of one try

module _ (lib : LibNo) (d d' : Noted) (x x' : SessionSeen) (end : Outcome) (L : SessionSeen → SessionSeen → Type 0) (I : SessionSeen → List Ask → Nodes → Type 0) (t : Tried (Notes lib) (sees lib) d x L I end d' x') where
  abbrev pub all : SessionSeen
  all = took x (map (λ (c : Call). c.told) t.given)

  abbrev pub asks : List Ask
  asks = map (λ (c : Call). c.ask) (t.given ++ t.last)

  -- the nodes before it are possible after it, so what is shown is true of them
  pub record Facts : Type 0 where
    pub carried : Carried lib d d' all
    pub possible : ArePossible (sees lib d') x'.parcel x'.reads (nodes_of d.state) d'.state.home.rows
    pub creds : creds_of d'.state lib.0 ≡ creds_of d.state lib.0
    pub shown : I all asks (batch_nodes (creds_of d'.state lib.0) x.calls (nodes_of d.state))

  pub facts : StandsTrue d.state → HasOut (out_of d.state lib) x → end ≢ NoMemory → (HasOut (out_of d'.state lib) all → HasOut (out_of d'.state lib) x') → Facts
  facts h has some left =
      let c = tried_carried lib t.given t.last d d' x end t.each (final_of end t.last some t.ends) h has t.made in
      let p : ArePossible (sees lib d') x'.parcel x'.reads (nodes_of d.state) d'.state.home.rows =
      subst (λ nodes. ArePossible (sees lib d') x'.parcel x'.reads nodes d'.state.home.rows) c.nodes (possible_here d'.state lib x' c.true (left c.has)) in
      record {
        carried = c;
        possible = p;
        creds = ap (λ (cs : List Creds). creds_of (record d.state { creds = cs }) lib.0) c.creds;
        shown = t.shown (nodes_of d.state) d'.state.home.rows p;
      }

-- two tries that ask of one list go the same way
pub tried_going : (lib : LibNo) (d e d' e' : Noted) (x y x' y' : SessionSeen) (end end' : Outcome) (L L' : SessionSeen → SessionSeen → Type 0) (I I' : SessionSeen → List Ask → Nodes → Type 0)
    (t : Tried (Notes lib) (sees lib) d x L I end d' x') (u : Tried (Notes lib) (sees lib) e y L' I' end' e' y') (wanted : List Ask)
    → StandsTrue d.state → StandsTrue e.state → known d.state ≡ known e.state → end ≢ NoMemory → end' ≢ NoMemory
    → AskedBy end (map (λ (c : Call). c.ask) (t.given ++ t.last)) wanted → AskedBy end' (map (λ (c : Call). c.ask) (u.given ++ u.last)) wanted → OneGoing t.given u.given end end' d'.state e'.state
tried_going lib d e d' e' x y x' y' end end' L L' I I' t u wanted hd he same some some' a b =
    let p = part_of end (map (λ (c : Call). c.ask) (t.given ++ t.last)) wanted a in
    let q = part_of end' (map (λ (c : Call). c.ask) (u.given ++ u.last)) wanted b in
    one_going lib t.given u.given t.last u.last d e d' e' end end' p.rest q.rest hd.stands he.stands same t.each u.each (final_of end t.last some t.ends) (final_of end' u.last some' u.ends) p.whole q.whole (sym p.are ∙ q.are) t.made u.made
