-- What is in hand shows the nodes after its calls; and what stays of it where a desk has other things out.
use Rattle.trio_edit_laws.proofs.Words.{◌≡◌, ArePossible, Ask, ComesToShown, DeskSeen, Done, InHand, IsInOrder, IsUntouched, LentFile, LibOut, List, MayShow, Nodes, Option, Parcel, Row, SeenAfter, Shown, TakesMore, Told, arith, batch_nodes, tree_stays_through}

-- where calls come to what was in hand, it may show the nodes after them, whatever is possible now
pub shown_by : (desk : DeskSeen) (h h' : InHand) (calls : List Done) (nodes : Nodes) (rows : List (Option Row))
    → TakesMore desk h h' → ComesToShown desk h.parcel h.back calls → ArePossible desk h'.parcel h'.back nodes rows
    → MayShow desk h h' nodes (batch_nodes desk.creds calls nodes) rows
shown_by desk h h' calls nodes rows more comes possible =
    let p = more nodes rows possible in
    let was = comes nodes rows p in
    record { possible = possible; tree = tree_stays_through nodes desk.creds calls p.tree was.0; shows = was.1 }

-- a desk after a call is the one before it, but for what is out
pub desk_after : (old new : DeskSeen) (ask : Ask) (told : Told) → SeenAfter old ask told new → new ≡ record old { out = new.out }
desk_after old new ask told seen = search arith

module _ (desk : DeskSeen) (out' : LibOut) where
  abbrev now : DeskSeen
  now = record desk { out = out' }

  pub possible_before : (b : Parcel) (back : List Shown) (nodes : Nodes) (rows : List (Option Row)) → ArePossible now b back nodes rows → ArePossible desk b back nodes rows
  possible_before b back nodes rows p = record { tree = p.tree; agrees = p.agrees; none = p.none; same = p.same; places = p.places }

  -- what is in hand is in order
  pub order_now : (h : InHand) → IsInOrder desk h → IsInOrder (record desk { out = out' }) h
  order_now h o = record { among = λ nodes rows p. o.among nodes rows (possible_before h.parcel h.back nodes rows p); pages = o.pages; files = o.files }

  -- the calls come to what it shows
  pub comes_now : (h : InHand) (calls : List Done) → ComesToShown desk h.parcel h.back calls → ComesToShown (record desk { out = out' }) h.parcel h.back calls
  comes_now h calls comes nodes rows p = comes nodes rows (possible_before h.parcel h.back nodes rows p)

  -- and a file is untouched
  pub untouched_now : (h : InHand) (f : LentFile) → IsUntouched desk h f → IsUntouched (record desk { out = out' }) h f
  untouched_now h f u = record { as_lent = u.as_lent; well = u.well; unwritten = u.unwritten; unheld = u.unheld; apart = u.apart }
