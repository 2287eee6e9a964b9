-- Which pages the judged files list, as what is in hand stands.
use Rattle.trio_edit_laws.proofs.Words.{◌∙◌, ◌≡◌, Bundle, DeskSeen, Held, In, InHand, IsTree, List, Nodes, Option, Row, [], ap, are_new, batch_nodes, bundle_of, case_in_hand, case_with, flat_map-In, held_by, inl, inr, judged_page, judged_pages, listed_in_hand, map, owning_parts, pages_alike, pages_within, refl, subst, sym, tree_stays_through, with_allotment, with_write}
use Rattle.trio_layout.specs.JudgedFiles.{judged_files}
use Rattle.trio_edit_laws.specs.session.Listed.{ListedAfterAllotment, ListedAfterHold, ListedAfterWrite, ListedAreInHand, TakingKeeps}
use Rattle.trio_laws.proofs.session.TakenMore as more
use Rattle.trio_laws.proofs.session.TakenWrite as write

-- whatever the rows say
pub stands : (desk : DeskSeen) (h : InHand) (rows : List (Option Row)) → listed_in_hand desk h ≡ judged_pages (case_in_hand desk rows h)
stands desk h rows = pages_alike desk.sizes desk.creds rows [] (bundle_of h.parcel) (map held_by h.parcel.holds)

pub listed_are_in_hand : ListedAreInHand
listed_are_in_hand desk h h' nodes nodes' rows v = (
  ap (are_new []) (stands desk h rows) ∙ (owning_parts (case_in_hand desk rows h) v.shows.shows.owning).pages_once,
  λ page i.
      let j : In page (judged_pages (case_in_hand desk rows h)) = subst (λ l. In page l) (stands desk h rows) i in
      let m = flat_map-In (pages_within (case_in_hand desk rows h)) page (judged_files (case_in_hand desk rows h)) j in
      let b : Bundle = bundle_of h.parcel in
      let lent : List Held = map held_by h.parcel.holds in
      judged_page desk.sizes desk.creds rows b b lent lent nodes nodes' v.shows.shows m.0 page m.1 m.2,
)

pub listed_after_write : ListedAfterWrite
listed_after_write desk h f nodes nodes' rows page u v i =
    let lent : List Held = map held_by h.parcel.holds in
    let j : In page (judged_pages (case_in_hand desk rows (with_write h f))) = subst (λ l. In page l) (stands desk (with_write h f) rows) i in
    let k = subst (λ (x : Bundle). In page (judged_pages (case_with desk.sizes desk.creds rows x lent))) (write.bundle_is desk h f v.order u) j in
    elim (write.listed_then desk h f v.order u nodes nodes' rows v.shows page k) [
      | inl before ↦ inl (subst (λ l. In page l) (sym (stands desk h rows)) before)
      | inr own ↦ inr own
    ]

pub listed_after_hold : ListedAfterHold
unfolding judged_files
listed_after_hold desk h k = refl

pub listed_after_allotment : ListedAfterAllotment
listed_after_allotment desk h given nodes nodes' rows new v =
    let lent : List Held = map held_by h.parcel.holds in
    stands desk (with_allotment h given) rows
    ∙ ap (λ (x : Bundle). judged_pages (case_with desk.sizes desk.creds rows x lent)) (more.bundle_is desk h given v.order new)
    ∙ more.listed_then desk h given v.order new nodes nodes' rows v.shows
    ∙ sym (stands desk h rows)

pub taking_keeps : TakingKeeps
taking_keeps desk h h' calls t comes nodes rows possible =
    let p = t.more nodes rows possible in
    let was = comes nodes rows p in
    let after : Nodes = batch_nodes desk.creds calls nodes in
    let tree : IsTree after = tree_stays_through nodes desk.creds calls p.tree was.0 in
    (was.0, t.shows nodes after rows (record { possible = possible; tree = tree; shows = was.1 }))
