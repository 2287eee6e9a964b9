-- A call that is noted keeps what a session would hand in ready.
use Rattle.trio_laws.proofs.Words.{◌++◌, ◌∙◌, ◌∷◌, ◌≡◌, Apply, ArePossible, Case, Creds, DeskSeen, Done, Front, In, In-left, InHand, IsTree, LegalCalls, List, MadeFits, MayShow, Met, Node, Nodes, None, Option, Row, Shown, Shows, Some, [], ap, arith, batch_nodes, call_nodes, descend, false≢true, fronts, inl, inr, is_ok, lent_files, new_entries, option_map, parcel_case, refl, subst, suc, sym, tree_stays_through, zero, ℕ, with_judged}
use Rattle.trio_layout.specs.JudgedFiles.{judged_files}
use Rattle.trio_desk.specs.Edits.{nothing}
use Rattle.trio_laws.specs.session.Calls.{CallKeeps, LookKeeps, NothingIsReady}
use Rattle.trio_laws.proofs.session.Again.{possible_with_less}

-- ---- one call more

pub batch_more : (creds : Creds) (calls : List Done) (d : Done) (nodes : Nodes) → batch_nodes creds (calls ++ d ∷ []) nodes ≡ call_nodes creds (batch_nodes creds calls nodes) d
batch_more creds [] d nodes = refl
batch_more creds (c ∷ cs) d nodes = batch_more creds cs d (call_nodes creds nodes c)

pub reply_more : (creds : Creds) (calls : List Done) (d : Done) (nodes : Nodes) → LegalCalls creds nodes calls
    → Apply (batch_nodes creds calls nodes) creds d.call d.made d.reply (call_nodes creds (batch_nodes creds calls nodes) d) → MadeFits (batch_nodes creds calls nodes) d
    → LegalCalls creds nodes (calls ++ d ∷ [])
reply_more creds [] d nodes c a m = (a, m, tt)
reply_more creds (x ∷ xs) d nodes c a m = (c.0, c.1, reply_more creds xs d (call_nodes creds nodes x) c.2 a m)

pub call_keeps : CallKeeps
call_keeps desk h h' calls d change more edit does comes nodes rows possible =
    let was = comes nodes rows (more nodes rows possible) in
    let n1 : Nodes = batch_nodes desk.creds calls nodes in
    let tree : IsTree n1 = tree_stays_through nodes desk.creds calls possible.tree was.0 in
    let may : MayShow desk h h' nodes n1 rows = record { possible = possible; tree = tree; shows = was.1 } in
    let call = does nodes n1 rows may in
    let after = edit nodes n1 rows may in
    let end : batch_nodes desk.creds (calls ++ d ∷ []) nodes ≡ change n1 = batch_more desk.creds calls d nodes ∙ call.2 in (
      reply_more desk.creds calls d nodes was.0 call.0 call.1,
      subst (λ k. Shows (parcel_case desk.sizes desk.creds rows h'.parcel) nodes k) (sym end) after,
    )

-- ---- nothing in hand

no_fronts : (kids : Met → List Met) (k : ℕ) → fronts kids [] k ≡ record { passed = []; level = [] }
no_fronts kids zero = refl
no_fronts kids (suc k) = ap (descend kids) (no_fronts kids k)

judged_same : (o : Option Node) → option_map (with_judged None None) o ≡ o
judged_same None = refl
judged_same (Some x) = refl

module _ (desk : DeskSeen) (rows : List (Option Row)) where
  abbrev c0 : Case
  c0 = parcel_case desk.sizes desk.creds rows nothing

  none_judged : judged_files c0 ≡ []
  unfolding judged_files
  none_judged = ap (λ (w : Front). w.passed) (no_fronts (new_entries c0) (suc c0.inodes))

  nothing_shows : (nodes : Nodes) → Shows c0 nodes nodes
  nothing_shows nodes = search (arith, is_ok, none_judged, judged_same, false≢true)

pub nothing_is_ready : NothingIsReady
nothing_is_ready desk back nodes rows possible = (tt, nothing_shows desk rows nodes)

-- ---- looks

in_before : (f : Shown) (xs ys zs : List Shown) → In f (xs ++ ys) → In f (xs ++ (ys ++ zs))
in_before f [] ys zs i = In-left f ys zs i
in_before f (x ∷ xs) ys zs (inl e) = inl e
in_before f (x ∷ xs) ys zs (inr i) = inr (in_before f xs ys zs i)

-- what is possible with more files for reading was possible without
pub fewer : (desk : DeskSeen) (h : InHand) (more : List Shown) (nodes : Nodes) (rows : List (Option Row)) → ArePossible desk h.parcel (h.back ++ more) nodes rows → ArePossible desk h.parcel h.back nodes rows
fewer desk h more =
    possible_with_less desk h.parcel h.parcel h.back (h.back ++ more) (λ f i. in_before f (lent_files h.parcel.writes) h.back more i) (λ k i. i) (λ n i. i)

pub look_keeps : LookKeeps
look_keeps desk h more calls d does comes =
    call_keeps desk h (record { parcel = h.parcel; back = h.back ++ more }) calls d (λ n. n) (fewer desk h more) (λ nodes nodes' rows may. may.shows) does comes
