-- What a desk is handed in was given by the controller.
use Rattle.trio_ctl.proofs.Words.{◌&&◌, ◌++◌, ◌==◌, ◌∙◌, ◌≡◌, AreWhole, Bool, GivenTo, GrantKind, HasGrant, HoldParts, In, In-cases, InoParts, LentFile, LentPage, LibNo, List, OpenGrant, PageNo, Parcel, Read, Sheet, Shown, State, WasAllotted, WasLent, WereHeld, WereLent, Written, [], and_parts, ap, are_new, bundle_of, eqb-true, filter-In, flat_map, flat_map-In, fresh_sheet, grants_of, hold_of, inl, inr, is_hold, is_read, is_write, length, lent_sheet, map, map-In, map-map, out_of, sheet_numbers, shown_of, subst, sym, true, untouched, write_is, written_in}
use Rattle.trio_desk.specs.Out.{IsLent, WasGiven}
use Rattle.trio_ctl.specs.HandedIn.{WasHeld}
use Rattle.trio_ctl.proofs.DeskOuts.{hold_is, numbers_to-In, read_is}

-- the grant behind what is seen of a library's grants of one kind
pub record Behind {Y : Type 0} (v : OpenGrant → Y) (is_kind : GrantKind → Bool) (s : State) (lib' : LibNo) (y : Y) : Type 0 where
  pub grant : OpenGrant
  pub is_open : In grant s.open_grants
  pub lib : grant.lib ≡ lib'.0
  pub kind : is_kind grant.kind ≡ true
  pub is : y ≡ v grant

pub behind : {Y : Type 0} (v : OpenGrant → Y) (is_kind : GrantKind → Bool) (s : State) (lib : LibNo) (y : Y) → In y (map v (grants_of is_kind lib s.open_grants)) → Behind v is_kind s lib y
behind v is_kind s lib y i =
    let m = map-In v y (grants_of is_kind lib s.open_grants) i in
    let f = filter-In (λ (g : OpenGrant). g.lib == lib.0 && is_kind g.kind) m.0 s.open_grants m.1 in
    let p = and_parts (m.0.lib == lib.0) (is_kind m.0.kind) f.1 in
    record { grant = m.0; is_open = f.0; lib = eqb-true m.0.lib lib.0 p.0; kind = p.1; is = m.2 }

-- the page numbers of lent pages
numbers_of : (pages : List LentPage) → sheet_numbers (map lent_sheet pages) ≡ map (λ (n : PageNo). n.0) (map (λ p. p.no) pages)
numbers_of pages = map-map (λ (x : Sheet). x.page) lent_sheet pages ∙ sym (map-map (λ (n : PageNo). n.0) (λ (p : LentPage). p.no) pages)

-- as they were lent
lent_numbers : (sheets : List Sheet) → map (λ (n : PageNo). n.0) (map (λ p. p.no) (map untouched sheets)) ≡ sheet_numbers sheets
lent_numbers sheets =
    ap (map (λ (n : PageNo). n.0)) (map-map (λ (p : LentPage). p.no) untouched sheets)
    ∙ map-map (λ (n : PageNo). n.0) (λ (x : Sheet). record { 0 = x.page }) sheets

-- a file that is out
lent_to : (s : State) (lib : LibNo) (f : LentFile) → IsLent (out_of s lib) f → WasLent s lib.0 (written_in f.stands)
lent_to s lib f l =
    let w = behind shown_of is_write s lib f.lent l.lent in
    record {
      grant = w.grant;
      is_open = w.is_open;
      lib = w.lib;
      kind = write_is w.grant.kind w.kind;
      ino = ap (λ (x : Shown). x.ino) (sym w.is) ∙ sym l.same.ino;
      of = ap (λ (x : Shown). x.kind) (sym w.is) ∙ sym l.same.kind;
      index =
          numbers_of f.stands.index ∙ ap (map (λ (n : PageNo). n.0)) (l.same.index ∙ ap (λ (x : Shown). map (λ p. p.no) x.index) w.is)
          ∙ lent_numbers w.grant.index;
      blocks =
          numbers_of f.stands.blocks ∙ ap (map (λ (n : PageNo). n.0)) (l.same.blocks ∙ ap (λ (x : Shown). map (λ p. p.no) x.blocks) w.is)
          ∙ lent_numbers w.grant.blocks;
    }

-- a hold that is out
held_by : (s : State) (lib : LibNo) (h : HoldParts) → In h (out_of s lib).holds → WasHeld s lib.0 h
held_by s lib h i =
    let w = behind hold_of is_hold s lib h i in
    record {
      grant = w.grant;
      is_open = w.is_open;
      lib = w.lib;
      kind = hold_is w.grant.kind w.kind;
      ino = ap (λ (x : HoldParts). x.ino) (sym w.is);
      of = ap (λ (x : HoldParts). x.kind) (sym w.is);
      body = ap (λ (x : HoldParts). x.body) (sym w.is);
    }

pub were_held : (s : State) (lib : LibNo) (p : Parcel) → WasGiven (out_of s lib) p → WereHeld s lib.0 p.holds
were_held s lib p g h i = held_by s lib h (g.holds h i)

-- a read lease that is out
pub read_by : (s : State) (lib : LibNo) (lease : Shown) → In lease (out_of s lib).reads → HasGrant s lib.0 lease.ino Read × (lease.lib.0 ≡ lib.0)
read_by s lib lease i =
    let w = behind shown_of is_read s lib lease i in (
      record { grant = w.grant; is_open = w.is_open; lib = w.lib; kind = read_is w.grant.kind w.kind; ino = ap (λ (x : Shown). x.ino) (sym w.is) },
      ap (λ (x : Shown). x.lib.0) w.is ∙ w.lib,
    )

whole_sheets : (pages : List LentPage) → AreWhole pages → (x : Sheet) → In x (map lent_sheet pages) → length x.bytes ≡ 4096
whole_sheets pages w x i =
    let m = map-In lent_sheet x pages i in ap (λ (y : Sheet). length y.bytes) m.2 ∙ w m.0 m.1

pub given_to : (s : State) (lib : LibNo) (p : Parcel) → WasGiven (out_of s lib) p → GivenTo s lib.0 (bundle_of p)
given_to s lib p g = record {
  writes = λ w i.
      let m = map-In (λ (f : LentFile). written_in f.stands) w p.writes i in
      subst (WasLent s lib.0) (sym m.2) (lent_to s lib m.0 (g.writes m.0 m.1));
  holds = λ n i.
      let m = map-In (λ (h : HoldParts). h.ino) n p.holds i in
      let w = held_by s lib m.0 (g.holds m.0 m.1) in
      record { grant = w.grant; is_open = w.is_open; lib = w.lib; kind = w.kind; ino = w.ino ∙ sym m.2 };
  pages = λ n i.
      let m = map-In (λ (x : Sheet). x.page) n (map fresh_sheet p.pages) i in
      let q = map-In fresh_sheet m.0 p.pages m.1 in
      let is : q.0.no.0 ≡ n = ap (λ (x : Sheet). x.page) (sym q.2) ∙ sym m.2 in
      subst (WasAllotted s.pages_out lib.0) is (numbers_to-In s.pages_out lib.0 q.0.no.0 (g.pages q.0 q.1).given);
  numbers = λ n i.
      let m = map-In (λ (x : InoParts). x.no) n p.inodes i in
      subst (WasAllotted s.numbers_out lib.0) (sym m.2) (numbers_to-In s.numbers_out lib.0 m.0.no (g.numbers m.0 m.1));
  full = λ x i.
      elim (In-cases x (flat_map (λ (w : Written). w.index ++ w.blocks) (bundle_of p).writes) (bundle_of p).pages i) [
        | inl a ↦
            (let r = flat_map-In (λ (w : Written). w.index ++ w.blocks) x (bundle_of p).writes a in
            let q = map-In (λ (f : LentFile). written_in f.stands) r.0 p.writes r.1 in
            let l = g.writes q.0 q.1 in
            elim (In-cases x r.0.index r.0.blocks r.2) [
              | inl j ↦ whole_sheets q.0.stands.index l.index x (subst (λ (w : Written). In x w.index) q.2 j)
              | inr j ↦ whole_sheets q.0.stands.blocks l.blocks x (subst (λ (w : Written). In x w.blocks) q.2 j)
            ])
        | inr b ↦ (let r = map-In fresh_sheet x p.pages b in ap (λ (y : Sheet). length y.bytes) r.2 ∙ (g.pages r.0 r.1).whole)
      ];
  writes_once = ap (are_new []) (map-map (λ (w : Written). w.ino) (λ (f : LentFile). written_in f.stands) p.writes) ∙ g.writes_once;
  holds_once = g.holds_once;
  pages_once = ap (are_new []) (map-map (λ (x : Sheet). x.page) fresh_sheet p.pages) ∙ g.pages_once;
  numbers_once = g.numbers_once;
}

-- each write lease of a parcel shows as lent what an open write grant of the library lent
pub were_lent : (s : State) (lib : LibNo) (p : Parcel) → WasGiven (out_of s lib) p → WereLent s lib.0 p.writes
were_lent s lib p g f i =
    let l = g.writes f i in
    let w = behind shown_of is_write s lib f.lent l.lent in
    record {
      grant = w.grant;
      is_open = w.is_open;
      lib = w.lib;
      kind = write_is w.grant.kind w.kind;
      ino = ap (λ (x : Shown). x.ino) (sym w.is) ∙ sym l.same.ino;
      lent = w.is;
    }
