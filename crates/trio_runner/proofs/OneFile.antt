-- Two calls of alike sessions on one file come to the same.
use Rattle.trio_runner.proofs.Words.{◌++◌, ◌∙◌, ◌∷◌, ◌≡◌, Ask, AskedBy, Busy, Call, Creds, FileTried, IsAlike, Known, LibNo, List, NoMemory, Nodes, Noted, Notes, Ok, Outcome, Replied, Reply, SessionSeen, State, Told, [], ap, applied, batch_nodes, creds_of, false, lacks_room, map, nodes_of, noted, out_of, sees, subst, sym, took, took_alike, ℕ}
use Rattle.trio_nodes.specs.declared.call.Call as call
use Rattle.trio_nodes.specs.declared.call.Done.{Done}
use Rattle.trio_nodes.specs.declared.call.Reply.TheVariants as reply
use Rattle.trio_calls_file.specs.Asks.{ComesTo, Leaves, TriedIn, asks_of, edited}
use Rattle.trio_calls_file.proofs.AfterTaking.{edited_alike}
use Rattle.trio_runner.proofs.Left.{file_edited, took_calls}
use Rattle.trio_runner.proofs.OneCall.{Facts, MayEnd, OneTry, alike_both, facts, may_some, tried_going}
use Rattle.trio_runner.proofs.OneReply.{reply_shown, same_end}
use Rattle.trio_runner.proofs.SameNodes.{HasOut, StandsTrue, has_alike, may_has, nodes_known}

-- ---- what a try leaves

-- a session that was replied has its call behind those before
pub left_replied : (k : call.Call) (file : ℕ) (a : Reply) (all x' : SessionSeen) → Leaves k file (Replied a) all x' → x'.calls ≡ all.calls ++ record { call = k; reply = a; made = 0 } ∷ []
left_replied k file (reply.Ok answer) all x' l = ap (λ (q : SessionSeen). q.calls) l ∙ ap (λ (cs : List Done). cs ++ record { call = k; reply = reply.Ok answer; made = 0 } ∷ []) (file_edited k file all)
left_replied k file a all x' l = ap (λ (q : SessionSeen). q.calls) l

left_has : (s : State) (lib : LibNo) (k : call.Call) (file : ℕ) (end : Outcome) (d' : Noted) (all x' : SessionSeen) → MayEnd lib end d' x' → Leaves k file end all x' → HasOut (out_of d'.state lib) all → HasOut (out_of d'.state lib) x'
left_has s lib k file (Replied a) d' all x' may l h = may_has d'.state lib x' may
left_has s lib k file (Busy holder) d' all x' may l h = has_alike (out_of d'.state lib) all x' l h
left_has s lib k file NoMemory d' all x' may l h = absurd may

-- a call that is done comes to one file
pub files_same : (end : Outcome) (file file' : ℕ) (nodes : Nodes) (creds : Creds) (k : call.Call) → ComesTo end file nodes creds k → ComesTo end file' nodes creds k → (all all' x' y' : SessionSeen) → IsAlike all all' → Leaves k file end all x' → Leaves k file' end all' y' → IsAlike x' y'
files_same (Replied (reply.Ok answer)) file file' nodes creds k a b all all' x' y' e l m =
    let both : Ok file ≡ Ok file' = sym a ∙ b in
    let is : file ≡ file' = cc both in
    let l' = subst (λ n. Leaves k n (Replied (reply.Ok answer)) all x') is l in
    alike_both (noted k (reply.Ok answer) 0 (edited k file' all)) (noted k (reply.Ok answer) 0 (edited k file' all')) x' y' (ap (noted k (reply.Ok answer) 0) (edited_alike k file' all all' e)) l' m
files_same (Busy holder) file file' nodes creds k a b all all' x' y' e l m = alike_both all all' x' y' e l m
files_same NoMemory file file' nodes creds k a b all all' x' y' e l m = alike_both all all' x' y' e l m
files_same (Replied answer) file file' nodes creds k a b all all' x' y' e l m =
    alike_both (noted k answer 0 all) (noted k answer 0 all') x' y' (ap (noted k answer 0) e) l m

-- ---- two tries

module _ (lib : LibNo) (k : call.Call) where
  -- what one try shows, in the nodes before it
  record Shows (d d' : Noted) (x x' : SessionSeen) (end : Outcome) (t : FileTried (Notes lib) (sees lib) k d x end d' x') : Type 0 where
    comes : ComesTo end t.0 (batch_nodes (creds_of d.state lib.0) x.calls (nodes_of d.state)) (creds_of d.state lib.0) k
    asks : AskedBy end (map (λ (c : Call). c.ask) (t.1.given ++ t.1.last)) (asks_of (batch_nodes (creds_of d.state lib.0) x.calls (nodes_of d.state)) (creds_of d.state lib.0) x k)
    replies : (a : Reply) → end ≡ Replied a → lacks_room a ≡ false → a ≡ (applied (batch_nodes (creds_of d.state lib.0) x.calls (nodes_of d.state)) (creds_of d.state lib.0) k 0).reply
    true : StandsTrue d'.state

  shows : (d d' : Noted) (x x' : SessionSeen) (end : Outcome) (t : FileTried (Notes lib) (sees lib) k d x end d' x') → StandsTrue d.state → HasOut (out_of d.state lib) x → MayEnd lib end d' x' → Shows d d' x x' end t
  shows d d' x x' end t h has may =
      let L : SessionSeen → SessionSeen → Type 0 = Leaves k t.0 end in
      let I : SessionSeen → List Ask → Nodes → Type 0 = λ all asks now. TriedIn (sees lib d').creds x k end t.0 asks now in
      let f = facts lib d d' x x' end L I t.1 h has (may_some lib end d' x' may) (left_has d.state lib k t.0 end d' (took x (map (λ (c : Call). c.told) t.1.given)) x' may t.1.leaves) in
      let asks : List Ask = map (λ (c : Call). c.ask) (t.1.given ++ t.1.last) in
      let here : TriedIn (creds_of d.state lib.0) x k end t.0 asks (batch_nodes (creds_of d.state lib.0) x.calls (nodes_of d.state)) =
      subst (λ (cs : Creds). TriedIn cs x k end t.0 asks (batch_nodes cs x.calls (nodes_of d.state))) f.creds f.shown in
      record { comes = here.comes; asks = here.asks; replies = λ a e q. replied f a e q; true = f.carried.true }
    where
      all : SessionSeen
      all = took x (map (λ (c : Call). c.told) t.1.given)

      replied : Facts lib d d' x x' end (Leaves k t.0 end) (λ all asks now. TriedIn (sees lib d').creds x k end t.0 asks now) t.1 → (a : Reply) → end ≡ Replied a → lacks_room a ≡ false
          → a ≡ (applied (batch_nodes (creds_of d.state lib.0) x.calls (nodes_of d.state)) (creds_of d.state lib.0) k 0).reply
      replied f a e q =
          let last : Done = record { call = k; reply = a; made = 0 } in
          reply_shown lib d d' x x' k a 0 (subst (λ o. MayEnd lib o d' x') e may) f.possible f.creds
          (left_replied k t.0 a all x' (subst (λ o. Leaves k t.0 o all x') e t.1.leaves) ∙ ap (λ (cs : List Done). cs ++ last ∷ []) (took_calls x (map (λ (c : Call). c.told) t.1.given))) q

  pub one_file : OneTry lib (FileTried (Notes lib) (sees lib) k)
  one_file d e d' e' x y x' y' end end' hd he same like has has' may may' t u =
      let a = shows d d' x x' end t hd has may in
      let b = shows e e' y y' end' u he has' may' in
      let cs : creds_of e.state lib.0 ≡ creds_of d.state lib.0 = ap (λ (q : Known). creds_of (record d.state { creds = q.creds }) lib.0) (sym same) in
      let ns : nodes_of e.state ≡ nodes_of d.state = nodes_known e.state d.state (sym same) in
      let w : wanted (creds_of e.state lib.0) (nodes_of e.state) y ≡ wanted (creds_of d.state lib.0) (nodes_of d.state) x =
      ap (λ (c : Creds). wanted c (nodes_of e.state) y) cs ∙ ap (λ (n : Nodes). wanted (creds_of d.state lib.0) n y) ns ∙ ap (wanted (creds_of d.state lib.0) (nodes_of d.state)) like in
      let going = tried_going lib d e d' e' x y x' y' end end' (Leaves k t.0 end) (Leaves k u.0 end') _ _ t.1 u.1 (wanted (creds_of d.state lib.0) (nodes_of d.state) x) hd he same (may_some lib end d' x' may) (may_some lib end' e' y' may')
      a.asks (subst (AskedBy end' (map (λ (c : Call). c.ask) (u.1.given ++ u.1.last))) w b.asks) in
      let applies : Creds → Nodes → SessionSeen → Reply = λ c n z. (applied (batch_nodes c z.calls n) c k 0).reply in
      let r : applies (creds_of e.state lib.0) (nodes_of e.state) y ≡ applies (creds_of d.state lib.0) (nodes_of d.state) x =
      ap (λ (c : Creds). applies c (nodes_of e.state) y) cs ∙ ap (λ (n : Nodes). applies (creds_of d.state lib.0) n y) ns ∙ ap (applies (creds_of d.state lib.0) (nodes_of d.state)) like in
      let ends : end ≡ end' = same_end end end' going.ends (λ p q f g i j. a.replies p f i ∙ sym r ∙ sym (b.replies q g j)) in
      let Now : Creds → Nodes → SessionSeen → Type 0 = λ c n z. ComesTo end u.0 (batch_nodes c z.calls n) c k in
      let come : ComesTo end u.0 (batch_nodes (creds_of e.state lib.0) y.calls (nodes_of e.state)) (creds_of e.state lib.0) k =
      subst (λ o. ComesTo o u.0 (batch_nodes (creds_of e.state lib.0) y.calls (nodes_of e.state)) (creds_of e.state lib.0) k) (sym ends) b.comes in
      let come1 : Now (creds_of d.state lib.0) (nodes_of e.state) y = subst (λ (c : Creds). Now c (nodes_of e.state) y) cs come in
      let come2 : Now (creds_of d.state lib.0) (nodes_of d.state) y = subst (λ (n : Nodes). Now (creds_of d.state lib.0) n y) ns come1 in
      let come3 : Now (creds_of d.state lib.0) (nodes_of d.state) x = subst (Now (creds_of d.state lib.0) (nodes_of d.state)) like come2 in
      let tolds : List Call → List Told = λ g. map (λ (c : Call). c.told) g in
      let left : Leaves k u.0 end (took y (tolds t.1.given)) y' =
      subst (λ o. Leaves k u.0 o (took y (tolds t.1.given)) y') (sym ends) (subst (λ g. Leaves k u.0 end' (took y (tolds g)) y') (sym going.given_same) u.1.leaves) in
      record {
        end_same = ends;
        alike = files_same end t.0 u.0 (batch_nodes (creds_of d.state lib.0) x.calls (nodes_of d.state)) (creds_of d.state lib.0) k a.comes come3
            (took x (tolds t.1.given)) (took y (tolds t.1.given)) x' y' (took_alike x y (tolds t.1.given) like) t.1.leaves left;
        known_same = going.known_same;
        true = a.true;
        true' = b.true;
      }
    where
      wanted : Creds → Nodes → SessionSeen → List Ask
      wanted c n z = asks_of (batch_nodes c z.calls n) c z k
