-- A rename by its paths: which it refuses, and what the others need.
use Rattle.trio_calls_dir.proofs.Words.{◌++◌, ◌<◌, ◌∙◌, ◌∷◌, ◌≡◌, Ask, Bool, Call, Creds, Denied, DeskSeen, Err, Exists, Goes, IntoItself, IsAt, IsRefusal, IsRename, IsTree, LacksMemory, List, MatchResult, MayCall, Needed, Nodes, None, Ok, Option, Path, Rename, Reply, Result, SessionSeen, Some, Stop, Told, [], across_needs, ap, append_assoc, batch_nodes, both_dirs, cond, dir_needs, dir_of, early_refusal, false, false≢true, find_named, in_order, into_needs, is_above, is_root, length, moving_needs, name_of, number_made, one_path, reached_by, refl, refused_by_path, shows_root, subst, sym, true, try_ends, walk_into, ℕ}
use Rattle.std.proofs.lemmas.Slice.Eq.{bytes_eq-Decides}
use Rattle.trio_onetree.proofs.CallCases.{dir_and_name}
use Rattle.trio_walk.specs.Needs.{rename_needs}
use Rattle.trio_calls_dir.specs.declared.replies.Replied as replied
use Rattle.trio_calls_dir.proofs.Ends.{refused_goes}
use Rattle.trio_calls_dir.proofs.OnWay.{into_alike, into_at, root_entered}

-- ---- paths that don't refuse it

abbrev early : Bool → Bool → Bool → Option Reply
early a b c = cond a (Some Denied) (cond b (Some Exists) (cond c (Some IntoItself) None))

three : (a b c : Bool) → early a b c ≡ None → (a ≡ false) × (b ≡ false) × (c ≡ false)
three false false false e = (refl, refl, refl)
three false false true e = absurd (let wrong : Some IntoItself ≡ None = e in cc wrong)
three false true c e = absurd (let wrong : Some Exists ≡ None = e in cc wrong)
three true b c e = absurd (let wrong : Some Denied ≡ None = e in cc wrong)

module _ (call : Call) (from to : Path) (r : IsRename call from to) where
  are_paths : (is_root from ≡ false) × (is_root to ≡ false) × (is_above from to ≡ false)
  are_paths = three (is_root from) (is_root to) (is_above from to) (sym (ap early_refusal r.on) ∙ r.early)

  pub from_named : is_root from ≡ false
  from_named = are_paths.0

  pub to_named : is_root to ≡ false
  to_named = are_paths.1

  pub apart : is_above from to ≡ false
  apart = are_paths.2

  -- so it needs both walks
  rename_is : (now : Nodes) (creds : Creds) (shown : Bool) → dir_needs now creds shown call ≡ rename_needs now creds shown from to
  rename_is now creds shown =
      let all : List Needed = rename_needs now creds shown from to in
      ap (dir_needs now creds shown) r.on
      ∙ ap (λ b. cond b [] (cond (is_root to) [] (cond (is_above from to) [] all))) from_named
      ∙ ap (λ b. cond b [] (cond (is_above from to) [] all)) to_named
      ∙ ap (λ b. cond b [] all) apart

  -- what is needed behind the first walk doesn't go by whether the root's rights were shown
  pub rename_across : (now : Nodes) → IsTree now → (creds : Creds) (shown shown1 : Bool)
      → dir_needs now creds shown call ≡ into_needs now creds shown (both_dirs from to) (dir_of from) ++ reached_by (walk_into now creds (both_dirs from to) (dir_of from)) (across_needs now creds shown1 from to)
  rename_across now tree creds shown shown1 = rename_is now creds shown ∙ ap (λ l. into_needs now creds shown (both_dirs from to) (dir_of from) ++ l) (by (walk_into now creds (both_dirs from to) (dir_of from)) refl)
    where
      by : (r : Result ℕ Reply) → walk_into now creds (both_dirs from to) (dir_of from) ≡ r → reached_by r (across_needs now creds shown from to) ≡ reached_by r (across_needs now creds shown1 from to)
      by (Err reply) e = refl
      by (Ok dir) e =
          ap (λ l. l ++ reached_by (walk_into now creds (both_dirs from to) (dir_of to)) (λ new_dir. moving_needs now from to dir new_dir))
          (into_alike now tree creds (both_dirs from to) shown shown1 (root_entered now creds (both_dirs from to) (dir_of from) dir e) (dir_of to))

  -- ---- the file that is renamed isn't on the way to its new directory

  above_more : (ps rest : Path) (name : List ℕ) → is_above ps (ps ++ (rest ++ name ∷ [])) ≡ true
  above_more [] [] name = refl
  above_more [] (r ∷ rest) name = refl
  above_more (p ∷ ps) rest name = ap (λ b. cond b (is_above ps (ps ++ (rest ++ name ∷ []))) false) ((bytes_eq-Decides p p).1 refl) ∙ above_more ps rest name

  pub not_on_way : (now : Nodes) → IsTree now → (creds : Creds) (dir n : ℕ) → walk_into now creds (both_dirs from to) (dir_of from) ≡ Ok dir → find_named now dir (name_of from) ≡ Some n
      → (names : List (List ℕ)) (rest : Path) → IsAt now names n → in_order names ++ rest ≡ dir_of to → ⊥
  not_on_way now tree creds dir n e f names rest a whole =
      let at = into_at now creds true (both_dirs from to) (dir_of from) dir e in
      let one : names ≡ name_of from ∷ at.0 = one_path now tree names (name_of from ∷ at.0) n a (dir, at.1, f) in
      let same : in_order names ≡ from = ap in_order one ∙ ap (λ p. p ++ name_of from ∷ []) at.2 ∙ dir_and_name from from_named in
      let long : to ≡ from ++ (rest ++ name_of to ∷ []) =
      sym (dir_and_name to to_named) ∙ ap (λ l. l ++ name_of to ∷ []) (sym whole ∙ ap (λ l. l ++ rest) same) ∙ append_assoc from rest (name_of to ∷ []) in
      false≢true (sym apart ∙ ap (is_above from) long ∙ above_more from rest (name_of to))

-- ---- paths that refuse it

early_none : (a b c : Bool) (reply : Reply) (rest : List Needed) → early a b c ≡ Some reply → cond a [] (cond b [] (cond c [] rest)) ≡ []
early_none true b c reply rest e = refl
early_none false true c reply rest e = refl
early_none false false true reply rest e = refl
early_none false false false reply rest e = absurd (let wrong : None ≡ Some reply = e in cc wrong)

early_is : (a b c : Bool) (reply : Reply) → early a b c ≡ Some reply → IsRefusal reply
early_is true b c reply e = (let same : Denied ≡ reply = (let k : Some Denied ≡ Some reply = e in cc k) in subst IsRefusal same tt)
early_is false true c reply e = (let same : Exists ≡ reply = (let k : Some Exists ≡ Some reply = e in cc k) in subst IsRefusal same tt)
early_is false false true reply e = (let same : IntoItself ≡ reply = (let k : Some IntoItself ≡ Some reply = e in cc k) in subst IsRefusal same tt)
early_is false false false reply e = absurd (let wrong : None ≡ Some reply = e in cc wrong)

pub early_goes : {D : Type 0} (called : D → Ask → Told → D → Type 0) (seen : D → DeskSeen) (d : D) (s : SessionSeen) (call : Call) (from to : Path) → call ≡ Rename from to → MayCall (seen d) s
    → (reply : Reply) → early_refusal (Rename from to) ≡ Some reply → (s' : SessionSeen) → s' ≡ record s { room = s'.room } → (result : Result replied.Replied Stop)
    → MatchResult result (λ r. (r ≡ record { reply = reply; made = 0 }) × (length s'.calls < s'.room.calls)) (λ stop. stop ≡ LacksMemory)
    → Goes called seen d s call (λ now. dir_needs now (seen d).creds (shows_root s) call) (try_ends result) (number_made result) d s'
early_goes called seen d s call from to is may reply refused s' kept result by =
    refused_goes called seen d s s' call (λ now. dir_needs now (seen d).creds (shows_root s) call) may kept
    (λ nodes rows p.
    let now : Nodes = batch_nodes (seen d).creds s.calls nodes in
    ap (dir_needs now (seen d).creds (shows_root s)) is
    ∙ early_none (is_root from) (is_root to) (is_above from to) reply (rename_needs now (seen d).creds (shows_root s) from to) refused)
    reply (early_is (is_root from) (is_root to) (is_above from to) reply refused)
    (λ nodes rows p.
    refused_by_path (seen d) (record { call = call; reply = reply; made = 0 }) (batch_nodes (seen d).creds s.calls nodes) (ap early_refusal is ∙ refused) refl)
    result by
