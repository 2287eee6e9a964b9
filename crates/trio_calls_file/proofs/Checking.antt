-- What the checks of a call say of the nodes that are shown.
use Rattle.trio_calls_file.proofs.Words.{◌++◌, ◌+◌, ◌∙◌, ◌∷◌, ◌≡◌, ArePossible, Bool, Call, Chmod, ComesHere, Create, Creds, Denied, DeskSeen, Directory, DoesCall, HasMet, HasRights, IsDir, IsFileCall, IsMet, Kind, List, ListNames, MayBeDone, MayCall, Met, Mkdir, Nodes, None, Option, Read, Regular, Rename, Reply, Rights, Rmdir, Row, SessionSeen, Some, Stat, TooLarge, Truncate, Unlink, Write, [], allot_asks, ap, applied, arith, asked, asks_at, batch_nodes, bytes_refusal, checked, cond, false, file_path, gives, gives_met, grant_ask, grant_for, in_hand, is_directory, is_done, is_some, largest_size, leb, length, ltb, map, need_for, node_at, not, one_need, option_map, path_of, refl, refusal, refusal_at, refused_by_check, rights_of, sees_root, served_by, shown_by, subst, sym, true, walk, walked_growth, wanted_pages, ℕ, Guard, IsLink, Link, NotLink, Readlink, Symlink, is_link, is_directory-false, text_refusal}
use Rattle.std.proofs.lemmas.Bool.Decides.{nat_tests}
use Rattle.trio_walk.specs.declared.met.Rights as shown_rights
use Rattle.trio_walk.proofs.Entering.{asked-one}
use Rattle.trio_walk.proofs.Meeting.{gives_known}
use Rattle.trio_calls_file.proofs.Looked.{IsRefused}

-- ---- refusals

pub not-leb : (a b : ℕ) → not (leb a b) ≡ ltb b a
not-leb a b = grind (arith, nat_tests)

-- why a call is refused, by the kind and by what the rights give
pub refusal_is : (creds : Creds) (r : Rights) (call : Call) → refusal creds r call ≡ refusal_at r.kind (gives creds (need_for call) r) call
refusal_is creds r (Write path at bytes) =
    ap (λ b. cond (is_directory r.kind) (Some IsDir) (cond (is_link r.kind) (Some IsLink) (cond (not (gives creds (need_for (Write path at bytes)) r)) (Some Denied) (cond b (Some TooLarge) None)))) (sym (not-leb (at + length bytes) largest_size))
refusal_is creds r (Read path at len) = refl
refusal_is creds r (Truncate path size) =
    ap (λ b. cond (is_directory r.kind) (Some IsDir) (cond (is_link r.kind) (Some IsLink) (cond (not (gives creds (need_for (Truncate path size)) r)) (Some Denied) (cond b (Some TooLarge) None)))) (sym (not-leb size largest_size))
refusal_is creds r (Stat path) = refl
refusal_is creds r (Mkdir path mode) = refl
refusal_is creds r (Create path mode) = refl
refusal_is creds r (Unlink path) = refl
refusal_is creds r (Rmdir path) = refl
refusal_is creds r (Rename from to) = refl
refusal_is creds r (ListNames path from) = refl
refusal_is creds r (Chmod path mode) = refl
refusal_is creds r (Symlink path text) = refl
refusal_is creds r (Readlink path) = refl
refusal_is creds r (Guard path on) = refl

pub file_path_of : (call : Call) → IsFileCall call → file_path call ≡ Some (path_of call)
file_path_of (Write path at bytes) f = refl
file_path_of (Read path at len) f = refl
file_path_of (Truncate path size) f = refl
file_path_of (Stat path) f = refl
file_path_of (Mkdir path mode) f = absurd f
file_path_of (Create path mode) f = absurd f
file_path_of (Unlink path) f = absurd f
file_path_of (Rmdir path) f = absurd f
file_path_of (Rename from to) f = absurd f
file_path_of (ListNames path from) f = absurd f
file_path_of (Chmod path mode) f = absurd f
file_path_of (Symlink path text) f = absurd f
file_path_of (Readlink path) f = refl
file_path_of (Guard path on) f = refl

-- a refusal of bytes is one of the checks'
bytes_refused : (kind : Kind) (g f : Bool) (r : Reply) → bytes_refusal kind g f ≡ Some r → IsRefused r
bytes_refused Directory g f r e = (let same : Some IsDir ≡ Some r = e in subst IsRefused (let is : IsDir ≡ r = cc same in is) tt)
bytes_refused Link g f r e = (let same : Some IsLink ≡ Some r = e in subst IsRefused (let is : IsLink ≡ r = cc same in is) tt)
bytes_refused Regular false f r e = (let same : Some Denied ≡ Some r = e in subst IsRefused (let is : Denied ≡ r = cc same in is) tt)
bytes_refused Regular true false r e = (let same : Some TooLarge ≡ Some r = e in subst IsRefused (let is : TooLarge ≡ r = cc same in is) tt)
bytes_refused Regular true true r e = (let wrong : None ≡ Some r = e in absurd (cc wrong))

-- and so is one of a link's text
text_refused : (kind : Kind) (g : Bool) (r : Reply) → text_refusal kind g ≡ Some r → IsRefused r
text_refused Directory g r e = (let same : Some NotLink ≡ Some r = e in subst IsRefused (let is : NotLink ≡ r = cc same in is) tt)
text_refused Regular g r e = (let same : Some NotLink ≡ Some r = e in subst IsRefused (let is : NotLink ≡ r = cc same in is) tt)
text_refused Link false r e = (let same : Some Denied ≡ Some r = e in subst IsRefused (let is : Denied ≡ r = cc same in is) tt)
text_refused Link true r e = (let wrong : None ≡ Some r = e in absurd (cc wrong))

none_refused : (r : Reply) → None ≡ Some r → IsRefused r
none_refused r e = absurd (cc e)

pub refused_at : (kind : Kind) (g : Bool) (call : Call) (r : Reply) → refusal_at kind g call ≡ Some r → IsRefused r
refused_at kind g (Write path at bytes) r e = bytes_refused kind g (leb (at + length bytes) largest_size) r e
refused_at kind g (Read path at len) r e = bytes_refused kind g true r e
refused_at kind g (Truncate path size) r e = bytes_refused kind g (leb size largest_size) r e
refused_at kind false (Stat path) r e = (let same : Some Denied ≡ Some r = e in subst IsRefused (let is : Denied ≡ r = cc same in is) tt)
refused_at kind true (Stat path) r e = none_refused r e
refused_at kind g (Mkdir path mode) r e = none_refused r e
refused_at kind g (Create path mode) r e = none_refused r e
refused_at kind g (Unlink path) r e = none_refused r e
refused_at kind g (Rmdir path) r e = none_refused r e
refused_at kind g (Rename from to) r e = none_refused r e
refused_at kind g (ListNames path from) r e = none_refused r e
refused_at kind g (Chmod path mode) r e = none_refused r e
refused_at kind g (Symlink path text) r e = none_refused r e
refused_at kind g (Readlink path) r e = text_refused kind g r e
refused_at kind g (Guard path on) r e = bytes_refused kind g true r e

-- a directory refuses the same, whatever its rights, where they are taken to give all
directory_refuses : (b : Bool) (call : Call) (r : Reply) → refusal_at Directory true call ≡ Some r → refusal_at Directory b call ≡ Some r
directory_refuses b (Write path at bytes) r e = e
directory_refuses b (Read path at len) r e = e
directory_refuses b (Truncate path size) r e = e
directory_refuses b (Stat path) r e = absurd (cc e)
directory_refuses b (Mkdir path mode) r e = e
directory_refuses b (Create path mode) r e = e
directory_refuses b (Unlink path) r e = e
directory_refuses b (Rmdir path) r e = e
directory_refuses b (Rename from to) r e = e
directory_refuses b (ListNames path from) r e = e
directory_refuses b (Chmod path mode) r e = e
directory_refuses b (Symlink path text) r e = e
directory_refuses b (Readlink path) r e = e
directory_refuses b (Guard path on) r e = e

-- ---- what is asked

module _ (creds : Creds) (s : SessionSeen) (m : Met) (call : Call) (now : Nodes) where
  -- nothing, where a check has refused
  pub asks_none : (r : Reply) → checked creds m call ≡ Some r → is_done (applied now creds call 0).reply ≡ false → asks_at creds s m call now ≡ []
  asks_none r e undone =
      ap (λ (o : Option Reply). map grant_ask (asked (served_by s) (cond (is_some o) [] (record { ino = m.ino; kind = grant_for call } ∷ []))) ++ allot_asks (wanted_pages now creds call) 0) e
      ∙ ap (λ b. allot_asks (cond b (walked_growth now call (walk now creds [] (path_of call))) 0) 0) undone

  -- and else the file's grant, and pages
  pub asks_own : checked creds m call ≡ None → asks_at creds s m call now ≡ map grant_ask (one_need s m.ino (grant_for call)) ++ allot_asks (wanted_pages now creds call) 0
  asks_own e =
      ap (λ (o : Option Reply). map grant_ask (asked (served_by s) (cond (is_some o) [] (record { ino = m.ino; kind = grant_for call } ∷ []))) ++ allot_asks (wanted_pages now creds call) 0) e
      ∙ ap (λ l. map grant_ask l ++ allot_asks (wanted_pages now creds call) 0) (asked-one s m.ino (grant_for call))

  pub no_pages_undone : is_done (applied now creds call 0).reply ≡ false → allot_asks (wanted_pages now creds call) 0 ≡ []
  no_pages_undone undone = ap (λ b. allot_asks (cond b (walked_growth now call (walk now creds [] (path_of call))) 0) 0) undone

-- ---- in the nodes that are shown

module _ (desk : DeskSeen) (s : SessionSeen) (call : Call) (m : Met) (may : MayCall desk s) (met : HasMet desk s m) (comes : ComesHere desk s (path_of call) m.ino) (file : IsFileCall call)
    (nodes : Nodes) (rows : List (Option Row)) (p : ArePossible desk s.parcel s.reads nodes rows) where
  abbrev now : Nodes
  now = batch_nodes desk.creds s.calls nodes

  t : IsMet met.0 s nodes (batch_nodes desk.creds s.calls nodes) desk.creds m
  t = met.1.met nodes rows p

  -- the rights of the file
  pub rights_there : HasRights (rights_of (met.1.met nodes rows p).after) (node_at (batch_nodes desk.creds s.calls nodes) m.ino)
  rights_there = ap (option_map rights_of) (met.1.met nodes rows p).there_now

  refusal_here : refusal desk.creds (rights_of (met.1.met nodes rows p).after) call ≡ refusal_at m.kind (gives desk.creds (need_for call) (rights_of (met.1.met nodes rows p).after)) call
  refusal_here =
      refusal_is desk.creds (rights_of (met.1.met nodes rows p).after) call
      ∙ ap (λ k. refusal_at k (gives desk.creds (need_for call) (rights_of (met.1.met nodes rows p).after)) call)
      ((met.1.met nodes rows p).kind)

  -- what is known refuses as they do
  pub refusal_known : (r : shown_rights.Rights) → m.rights ≡ Some r → refusal desk.creds (rights_of (met.1.met nodes rows p).after) call ≡ checked desk.creds m call
  refusal_known r e =
      refusal_here
      ∙ ap (λ b. refusal_at m.kind b call)
      (gives_known met.0 s nodes (batch_nodes desk.creds s.calls nodes) desk.creds m (met.1.met nodes rows p) (need_for call) r e)

  -- without rights it is the root, a directory
  pub root_kind : m.rights ≡ None → m.kind ≡ Directory
  root_kind e =
      let v = met.1.met nodes rows p in
      let now : Nodes = batch_nodes desk.creds s.calls nodes in
      let shows = shown_by desk (in_hand s) (in_hand s) s.calls nodes rows (λ n r q. q) may.comes p in
      let root = sees_root desk (in_hand s) (in_hand s) nodes now rows (record { order = may.edits.order; more = λ n r q. q; shows = shows }) in
      let there : Some (rights_of v.after) ≡ Some desk.root = sym (ap (option_map rights_of) (ap (node_at now) (sym (met.1.root e)) ∙ v.there_now)) ∙ root in
      let first : Some (rights_of p.tree.root.0) ≡ Some desk.root = sym (ap (option_map rights_of) p.tree.root.1) ∙ p.agrees.root_is in
      let same : rights_of v.after ≡ rights_of p.tree.root.0 = (let a : rights_of v.after ≡ desk.root = cc there in let b : rights_of p.tree.root.0 ≡ desk.root = cc first in a ∙ sym b) in
      sym v.kind ∙ ap (λ (r : Rights). r.kind) same ∙ p.tree.root.2

  -- a check that refuses does so in the tree
  pub checked_refuses : (r : Reply) → checked desk.creds m call ≡ Some r → refusal desk.creds (rights_of (met.1.met nodes rows p).after) call ≡ Some r
  checked_refuses r e = by m.rights refl
    where
      by : (o : Option shown_rights.Rights) → m.rights ≡ o → refusal desk.creds (rights_of (met.1.met nodes rows p).after) call ≡ Some r
      by (Some k) known = refusal_known k known ∙ e
      by None none =
          let dir = root_kind none in
          let same : checked desk.creds m call ≡ refusal_at Directory true call =
          ap (λ k. refusal_at k (gives_met desk.creds m (need_for call)) call) dir
          ∙ ap (λ (o : Option shown_rights.Rights). refusal_at Directory (gives_met desk.creds (record m { rights = o }) (need_for call)) call) none in
          refusal_here ∙ ap (λ k. refusal_at k (gives desk.creds (need_for call) (rights_of (met.1.met nodes rows p).after)) call) dir
          ∙ directory_refuses (gives desk.creds (need_for call) (rights_of (met.1.met nodes rows p).after)) call r (sym same ∙ e)

  pub refuses_call : (r : Reply) → checked desk.creds m call ≡ Some r → DoesCall desk (record { call = call; reply = r; made = 0 }) (batch_nodes desk.creds s.calls nodes) (batch_nodes desk.creds s.calls nodes)
  refuses_call r e =
      refused_by_check desk (record { call = call; reply = r; made = 0 }) (batch_nodes desk.creds s.calls nodes) (path_of call) m.ino (rights_of (met.1.met nodes rows p).after)
      (file_path_of call file) (comes nodes rows p) rights_there (checked_refuses r e) refl

  -- where the rights are known and no check refuses, the call may be done
  pub known_unrefused : (r : shown_rights.Rights) → m.rights ≡ Some r → checked desk.creds m call ≡ None → MayBeDone desk.creds call m.ino (batch_nodes desk.creds s.calls nodes)
  known_unrefused r known e =
      record { walks = comes nodes rows p; rights = rights_of (met.1.met nodes rows p).after; there = rights_there; checks = refusal_known r known ∙ e }

  -- so may it be done at what is no directory
  pub file_unrefused : is_directory m.kind ≡ false → checked desk.creds m call ≡ None → MayBeDone desk.creds call m.ino (batch_nodes desk.creds s.calls nodes)
  file_unrefused file e = by m.rights refl
    where
      by : (o : Option shown_rights.Rights) → m.rights ≡ o → MayBeDone desk.creds call m.ino (batch_nodes desk.creds s.calls nodes)
      by (Some r) known = known_unrefused r known e
      by None none = absurd (is_directory-false m.kind file (root_kind none))
