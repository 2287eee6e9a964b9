-- A call that is done or refused is noted: what the calls come to, and that the session may make calls still.
use Rattle.trio_edit_laws.proofs.Words.{◌++◌, ◌∙◌, ◌∷◌, ◌≡◌, ArePossible, ComesToShown, DeskSeen, Done, In, In-cases, List, MayCall, MayEdit, Nodes, Option, Row, SessionSeen, Shows, TakesMore, [], ap, batch_nodes, in_hand, inl, ino_numbers, inr, parcel_case, refl, spare_numbers, spare_pages, subst, sym}
use Rattle.std.specs.Prelude.{◌≢◌}
use Rattle.trio_nodes.specs.Legal.{LegalCalls}
use Rattle.trio_desk.specs.Edits.{DoesCall, EditShows}
use Rattle.trio_laws.proofs.session.Calls.{batch_more, reply_more}
use Rattle.trio_edit_laws.proofs.Alike.{edit_but}
use Rattle.trio_edit_laws.proofs.Shown.{shown_by}

module _ (desk : DeskSeen) (s s' : SessionSeen) (d : Done) (change : Nodes → Nodes) (calls : s'.calls ≡ s.calls) where
  -- the calls come to what is shown after an edit, with the call that makes this change as the last one
  pub comes_noted : ComesToShown desk s.parcel s.reads s.calls → TakesMore desk (in_hand s) (in_hand s') → EditShows desk (in_hand s) (in_hand s') change
      → ((nodes : Nodes) (rows : List (Option Row)) → ArePossible desk s.parcel s.reads nodes rows → DoesCall desk d (batch_nodes desk.creds s.calls nodes) (change (batch_nodes desk.creds s.calls nodes)))
      → ComesToShown desk s'.parcel s'.reads (s'.calls ++ d ∷ [])
  comes_noted comes more shows does nodes rows p =
      let q = more nodes rows p in
      let was = comes nodes rows q in
      let it = does nodes rows q in
      let shown = shown_by desk (in_hand s) (in_hand s') s.calls nodes rows more comes p in
      let end : batch_nodes desk.creds (s.calls ++ d ∷ []) nodes ≡ change (batch_nodes desk.creds s.calls nodes) = batch_more desk.creds s.calls d nodes ∙ it.2 in
      subst
      (λ (cs : List Done). LegalCalls desk.creds nodes (cs ++ d ∷ [])
      × Shows (parcel_case desk.sizes desk.creds rows s'.parcel) nodes (batch_nodes desk.creds (cs ++ d ∷ []) nodes)) (sym calls) (
        reply_more desk.creds s.calls d nodes was.0 it.0 it.1,
        subst (λ (k : Nodes). Shows (parcel_case desk.sizes desk.creds rows s'.parcel) nodes k) (sym end) (shows nodes (batch_nodes desk.creds s.calls nodes) rows shown),
      )

  -- so the session may make calls with it, which made a file of an allotted number or none
  pub may_noted : (d.made ≢ 0 → In d.made (ino_numbers s.parcel.inodes)) → ComesToShown desk s.parcel s.reads s.calls → ((x : Done) → In x s.calls → x.made ≢ 0 → In x.made (ino_numbers s.parcel.inodes)) → TakesMore desk (in_hand s) (in_hand s') → EditShows desk (in_hand s) (in_hand s') change
      → MayEdit desk s' → ino_numbers s'.parcel.inodes ≡ ino_numbers s.parcel.inodes → spare_pages s' ≡ [] → spare_numbers s' ≡ []
      → ((nodes : Nodes) (rows : List (Option Row)) → ArePossible desk s.parcel s.reads nodes rows → DoesCall desk d (batch_nodes desk.creds s.calls nodes) (change (batch_nodes desk.creds s.calls nodes)))
      → MayCall desk (record s' { calls = s'.calls ++ d ∷ [] })
  may_noted file comes made more shows edits inodes spent spent_numbers does = record {
    edits = edit_but desk s' s'.indexed s'.finds s'.room (s'.calls ++ d ∷ []) edits;
    comes = comes_noted comes more shows does;
    made = λ x i some.
        elim (In-cases x s'.calls (d ∷ []) i) [
          | inl old ↦ subst (λ l. In x.made l) (sym inodes) (made x (subst (λ (cs : List Done). In x cs) calls old) some)
          | inr (inl e) ↦
              (let same = ap (λ (y : Done). y.made) e in
              subst (λ l. In x.made l) (sym inodes) (subst (λ k. In k (ino_numbers s.parcel.inodes)) (sym same) (file (λ zero. some (same ∙ zero)))))
          | inr (inr no') ↦ absurd no'
        ];
    spent = spent;
    spent_numbers = spent_numbers;
  }

-- with a look or a refusal that is noted the session may make calls
pub may_looked : (desk : DeskSeen) (s : SessionSeen) (d : Done) → d.made ≡ 0 → MayCall desk s
    → ((nodes : Nodes) (rows : List (Option Row)) → ArePossible desk s.parcel s.reads nodes rows → DoesCall desk d (batch_nodes desk.creds s.calls nodes) (batch_nodes desk.creds s.calls nodes))
    → MayCall desk (record s { calls = s.calls ++ d ∷ [] })
may_looked desk s d none may does =
    may_noted desk s s d (λ now. now) refl (λ some. absurd (some none)) may.comes may.made (λ nodes rows p. p) (λ nodes now rows m. m.shows) may.edits refl may.spent may.spent_numbers does
