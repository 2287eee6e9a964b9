-- A rename at the names in its two directories.
use Rattle.trio_calls_dir.proofs.Words.{◌<◌, ◌∙◌, ◌∷◌, ◌≡◌, ArePossible, Ask, Bool, Busy, Call, ComesAcross, DeskSeen, Exists, FindsEntry, Goes, Hold, In, InAllShown, IsAcross, IsAlike, IsFound, IsFree, IsMetIn, LacksMemory, List, LooksUp, MatchResult, MayLookIn, Met, Needed, NeedsBusyAt, NoMemory, Node, Nodes, None, NotFound, Option, Outcome, Path, Replied, Result, SessionSeen, Some, Stop, Told, [], alike_finds, ap, asked, batch_nodes, cond, eqb, false, false≢true, find_named, grant_ask, is_some, length, map, may_alike, moving_needs, name_of, node_at, node_needs, number_made, option_map_or, place_shown, refl, served_by, subst, sym, true, try_ends, ℕ}
use Rattle.trio_walk.proofs.Ways.{went_none}
use Rattle.trio_names.specs.Name.{IsName}
use Rattle.trio_laws.proofs.session.DirCalls.{rename_refused_by_name}
use Rattle.trio_calls_dir.specs.declared.replies.Replied as replied
use Rattle.trio_calls_dir.proofs.Ends.{refused_goes}
use Rattle.trio_calls_dir.proofs.Entered.{open_alike}
use Rattle.trio_walk.proofs.OwnBusy.{busy_by}
use Rattle.trio_calls_dir.proofs.RemovesWalk.{finds_alike}
use Rattle.trio_calls_dir.proofs.Then.{goes_on}

-- ---- after a look-up

module _ (desk : DeskSeen) (s s' : SessionSeen) (k : ℕ) (kept : s' ≡ record s { finds = k }) where
  near : IsAlike s s'
  near = alike_finds s s' k kept

  pub looked_across : (call : Call) (from to : Path) (dir new_dir : ℕ) → IsAcross desk s call from to dir new_dir → IsAcross desk s' call from to dir new_dir
  looked_across call from to dir new_dir a = record {
    may = may_alike desk s s' near a.may;
    opens = open_alike s s' dir k kept a.opens;
    look = look_alike dir a.look;
    opens_new = open_alike s s' new_dir k kept a.opens_new;
    look_new = look_alike new_dir a.look_new;
    comes = subst (λ (q : SessionSeen). InAllShown desk q (λ now. ComesAcross now desk.creds call from to dir new_dir)) (sym kept) a.comes;
  }
    where
      look_alike : (n : ℕ) → MayLookIn desk s n → MayLookIn desk s' n
      look_alike n m = subst (λ (q : SessionSeen). MayLookIn desk q n) (sym kept) (record { gives = m.gives; above = m.above })

  pub looked_found : (from : Path) (dir : ℕ) (file : Met) → IsFound desk s from dir file → IsFound desk s' from dir file
  looked_found from dir file f = record {
    entry = finds_alike s s' dir k (name_of from) (name_of from) file kept refl f.entry;
    met = (
      f.met.0,
      subst (λ (q : SessionSeen). IsMetIn f.met.0 desk q file) (sym kept) (record {
        root = f.met.1.root;
        met = λ nodes rows p. (let m = f.met.1.met nodes rows p in record { after = m.after; there_now = m.there_now; kind = m.kind; rights = m.rights; known = m.known; live = m.live });
      }),
    );
    named = subst (λ (q : SessionSeen). InAllShown desk q (λ now. find_named now dir (name_of from) ≡ Some file.ino)) (sym kept) f.named;
  }

  -- what was found, or not, by that look-up
  pub found_one : (from : Path) (dir : ℕ) (name : List ℕ) (file : Met) → name ≡ name_of from → FindsEntry s dir name (Some file) → LooksUp desk s' dir name (Some file) → IsFound desk s' from dir file
  found_one from dir name file is finds looked = record {
    entry = finds_alike s s' dir k name (name_of from) file kept is finds;
    met = (true, looked.0 true);
    named = subst (λ n. InAllShown desk s' (λ now. find_named now dir n ≡ Some file.ino)) is looked.1;
  }

  pub found_none : (to : Path) (new_dir : ℕ) (name : List ℕ) → name ≡ name_of to → IsName (name_of to) → FindsEntry s new_dir name None → LooksUp desk s' new_dir name None → IsFree desk s' to new_dir
  found_none to new_dir name is named finds looked = record {
    name = named;
    place = subst (λ (q : SessionSeen). place_shown q new_dir (name_of to) ≡ None) (sym kept) (subst (λ n. place_shown s new_dir n ≡ None) is finds);
    named = subst (λ n. InAllShown desk s' (λ now. find_named now new_dir n ≡ None)) is looked;
  }

  -- what keeps a grant off did so before
  pub looked_busy : (needs : Nodes → List Needed) (end : Outcome) → NeedsBusyAt desk s' needs end → NeedsBusyAt desk s needs end
  looked_busy needs (Replied reply) b = tt
  looked_busy needs NoMemory b = tt
  looked_busy needs (Busy holder) b = λ mine.
      let c = b (mine ∙ sym (ap (λ (q : SessionSeen). q.lib) kept)) in
      record {
        ino = c.ino;
        kind = c.kind;
        own = record {
          busy = busy_by s' s c.ino c.kind (ap (λ (q : SessionSeen). q.parcel) kept) (ap (λ (q : SessionSeen). q.reads) kept) c.own.busy;
          nodes = c.own.nodes;
          rows = c.own.rows;
          possible = subst (λ (q : SessionSeen). ArePossible desk q.parcel q.reads c.own.nodes c.own.rows) kept c.own.possible;
        };
        needed = subst (λ (q : SessionSeen). In (record { ino = c.ino; kind = c.kind }) (needs (batch_nodes desk.creds q.calls c.own.nodes))) kept c.needed;
      }

-- what is done then goes with the look-up
pub looked_goes : {D : Type 0} (called : D → Ask → Told → D → Type 0) (seen : D → DeskSeen) (d : D) (s s1 : SessionSeen) (k : ℕ) → s1 ≡ record s { finds = k }
    → (call : Call) (needs : Nodes → List Needed) (end : Outcome) (number : ℕ) (d' : D) (s' : SessionSeen)
    → Goes called seen d s1 call needs end number d' s' → Goes called seen d s call needs end number d' s'
looked_goes called seen d s s1 k kept call needs end number d' s' goes =
    goes_on called seen d d d' s s1 s' call [] (went_none called seen d s s1 (alike_finds s s1 k kept)) end number needs needs
    (λ nodes rows p. ap (λ (q : SessionSeen). map grant_ask (asked (served_by q) (needs (batch_nodes (seen d).creds s1.calls nodes)))) (sym kept)) goes

-- ---- needs by the names

-- none of a file that isn't there
absent_needs : (now : Nodes) (from to : Path) (dir new_dir : ℕ) → find_named now dir (name_of from) ≡ None → moving_needs now from to dir new_dir ≡ []
absent_needs now from to dir new_dir e =
    ap (λ (o : Option ℕ). option_map_or (λ n. node_needs n (node_at now n) (λ n x.
    cond (is_some (find_named now new_dir (name_of to))) [] (cond (eqb dir new_dir) [] (record { ino = n; kind = Hold } ∷ [])))) o []) e

node_none : (n : ℕ) (o : Option Node) (rest : ℕ → Node → List Needed) → ((x : Node) → rest n x ≡ []) → node_needs n o rest ≡ []
node_none n None rest none = refl
node_none n (Some x) rest none = none x

-- nor of one that stays
pub stays_needs : (now : Nodes) (from to : Path) (dir new_dir n : ℕ) → find_named now dir (name_of from) ≡ Some n → (b : Bool) → is_some (find_named now new_dir (name_of to)) ≡ b
    → (b ≡ false → eqb dir new_dir ≡ true) → moving_needs now from to dir new_dir ≡ []
stays_needs now from to dir new_dir n e b there same =
    let rest : ℕ → Node → List Needed = λ m x. cond (is_some (find_named now new_dir (name_of to))) [] (cond (eqb dir new_dir) [] (record { ino = m; kind = Hold } ∷ [])) in
    ap (λ (o : Option ℕ). option_map_or (λ m. node_needs m (node_at now m) rest) o []) e
    ∙ node_none n (node_at now n) rest (λ x.
    ap (λ t. cond {A = List Needed} t [] (cond (eqb dir new_dir) [] (record { ino = n; kind = Hold } ∷ []))) there ∙ by b same)
  where
    by : (t : Bool) → (t ≡ false → eqb dir new_dir ≡ true) → cond {A = List Needed} t [] (cond (eqb dir new_dir) [] (record { ino = n; kind = Hold } ∷ [])) ≡ []
    by true same = refl
    by false same = ap (λ u. cond {A = List Needed} u [] (record { ino = n; kind = Hold } ∷ [])) (same refl)

-- ---- refusals by the names

module _ {D : Type 0} (called : D → Ask → Told → D → Type 0) (seen : D → DeskSeen) (d : D) (s : SessionSeen) (call : Call) (from to : Path) (dir new_dir : ℕ) (a : IsAcross (seen d) s call from to dir new_dir)
    (s' : SessionSeen) (kept : s' ≡ record s { room = s'.room }) (result : Result replied.Replied Stop) where
  -- the old name isn't there
  pub absent_goes : InAllShown (seen d) s (λ now. find_named now dir (name_of from) ≡ None)
      → MatchResult result (λ r. (r ≡ record { reply = NotFound; made = 0 }) × (length s'.calls < s'.room.calls)) (λ stop. stop ≡ LacksMemory)
      → Goes called seen d s call (λ now. moving_needs now from to dir new_dir) (try_ends result) (number_made result) d s'
  absent_goes none by =
      refused_goes called seen d s s' call (λ now. moving_needs now from to dir new_dir) a.may kept
      (λ nodes rows p. absent_needs (batch_nodes (seen d).creds s.calls nodes) from to dir new_dir (none nodes rows p))
      NotFound tt
      (λ nodes rows p.
      let now : Nodes = batch_nodes (seen d).creds s.calls nodes in
      rename_refused_by_name (seen d) (record { call = call; reply = NotFound; made = 0 }) now from to dir new_dir None (find_named now new_dir (name_of to)) (a.comes nodes rows p) (none nodes rows p) refl refl refl)
      result by

  -- the new one is
  pub exists_goes : (n m : ℕ) → InAllShown (seen d) s (λ now. find_named now dir (name_of from) ≡ Some n) → InAllShown (seen d) s (λ now. find_named now new_dir (name_of to) ≡ Some m)
      → MatchResult result (λ r. (r ≡ record { reply = Exists; made = 0 }) × (length s'.calls < s'.room.calls)) (λ stop. stop ≡ LacksMemory)
      → Goes called seen d s call (λ now. moving_needs now from to dir new_dir) (try_ends result) (number_made result) d s'
  exists_goes n m found there by =
      refused_goes called seen d s s' call (λ now. moving_needs now from to dir new_dir) a.may kept
      (λ nodes rows p.
      stays_needs (batch_nodes (seen d).creds s.calls nodes) from to dir new_dir n (found nodes rows p) true (ap is_some (there nodes rows p)) (λ no. absurd (false≢true (sym no))))
      Exists tt
      (λ nodes rows p.
      rename_refused_by_name (seen d) (record { call = call; reply = Exists; made = 0 }) (batch_nodes (seen d).creds s.calls nodes) from to dir new_dir (Some n) (Some m)
      (a.comes nodes rows p) (found nodes rows p) (there nodes rows p) refl refl)
      result by
