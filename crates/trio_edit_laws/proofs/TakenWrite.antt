-- A write lease that a session takes leaves it able to go on.
use Rattle.trio_edit_laws.proofs.Words.{◌++◌, ◌+◌, ◌<◌, ◌∙◌, ◌∷◌, ◌≡◌, Bool, Bundle, Chain, ChainsRead, Core, DeskSeen, In, In-cases, In-find, In-left, In-map, In-right, IsFreshLease, IsInOrder, IsLeftAlone, IsNamed, IsOn, IsUntouched, IsView, JudgesSame, Kind, LentFile, LibOut, List, MadeFile, MayEdit, Met, Nodes, None, Option, ReadsBy, Row, SessionSeen, Sheet, Shown, ShowsTrees, Some, Takes, TookMore, [], ap, append-nil, are_new, arith, bare_file, body_in, body_of, bundle_of, bundle_sheets, chain_in, chained, cond, core_in_hand, eq-eqb, eqb-true, file_numbers, files_out, find, find-In, find-append, find-position, flat_map, get_or, get_or_append_left, in_hand, inl, inr, is_some, left_at, length, length-append, lent_numbers, made_file, map, map-In, map-append, ne_eqb, new_between, no_chain, numbers_of_file, once_at, open_kind, option_map, option_or, pages_in_hand, place_in, position, position-some, refl, right_at, sheet_numbers, slice_get-In, slice_get_within, some_of, subst, sym, true, with_lease, within_from, written_at, written_file, written_in, ℕ}
use Rattle.std.proofs.Common.{slice_get, slice_index_or}
use Rattle.std.proofs.lemmas.Grind.{flat_map-append}
use Rattle.std.proofs.Math.Seq.{get_or-append_seam}
use Rattle.trio_lease.specs.declared.lease.Lease.TheVariants.{Write}
use Rattle.trio_edit_laws.proofs.session.Chains.{named_reads}
use Rattle.trio_edit_laws.proofs.session.JudgedTakings.{judged_after_write}
use Rattle.trio_edit_laws.proofs.session.Fresh.{fresh_is_untouched}
use Rattle.trio_laws.proofs.session.LentFiles.{lent_sheet_numbers, lent_sheets}
use Rattle.trio_laws.proofs.session.Sees.{untouched_reads}
use Rattle.trio_laws.proofs.session.TakenWrite as write
use Rattle.trio_laws.proofs.session.TakenWrite.{find-skip}
use Rattle.trio_session.specs.Asked.{lent_chain}
use Rattle.trio_edit_laws.specs.TakingLaws.{KeepsWrite}
use Rattle.trio_edit_laws.proofs.Shown.{desk_after, order_now, untouched_now}
use Rattle.trio_edit_laws.proofs.HandsIn.{IsSound, StandsAsLent, fresh_stands, hands_in, sound}
use Rattle.trio_edit_laws.proofs.Anew.{body-written}
use Rattle.trio_edit_laws.proofs.Fresh.{read_out}
use Rattle.trio_edit_laws.proofs.Hand.{lent_is_core}
use Rattle.trio_edit_laws.proofs.Keeps.{found_there, place_of_open, slot_held}
use Rattle.trio_edit_laws.proofs.MorePages.{HasPagesOf, page_in-more, pages_of_more, reads_by_more}
use Rattle.trio_edit_laws.proofs.Opens.{chain-made, chain-written, has_number, open_chained, opened, pages_of_chain}
use Rattle.trio_edit_laws.proofs.Pages.{page_of-hand}
use Rattle.trio_edit_laws.proofs.Taken.{HasMadeOf, body-taken, chains_now, entries_now, entries_taken, held_now, made_now, made_taken, shows_now}
use Rattle.trio_edit_laws.proofs.Whole.{shows_after}

-- an element that is found is found where one more stands behind, and where none is, that one is found if it passes
find-push : {X : Type 0} (p : X → Bool) (xs : List X) (x y : X) → find p xs ≡ Some y → find p (xs ++ x ∷ []) ≡ Some y
find-push p xs x y e = find-append p xs (x ∷ []) ∙ ap (λ q. option_or q (find p (x ∷ []))) e

find-last : {X : Type 0} (p : X → Bool) (xs : List X) (x : X) → find p xs ≡ None → p x ≡ true → find p (xs ++ x ∷ []) ≡ Some x
find-last p xs x e is = find-append p xs (x ∷ []) ∙ ap (λ q. option_or q (find p (x ∷ []))) e ∙ ap (λ t. cond t (Some x) None) is

-- where numbers differ a written file is at its place
placed : (s : SessionSeen) (n place : ℕ) (f : LentFile) → are_new [] (file_numbers s.parcel.writes) ≡ true → slice_get s.parcel.writes place ≡ Some f → f.stands.ino ≡ n → place_in s n ≡ Some place
placed s n place f once there number =
    let y = In-find (has_number n) s.parcel.writes f (slice_get-In s.parcel.writes place f there) (eq-eqb f.stands.ino n number) in
    let is : y.0.stands.ino ≡ n = eqb-true y.0.stands.ino n (find-In (has_number n) s.parcel.writes y.0 y.1).1 in
    let p = some_of (position (has_number n) s.parcel.writes) (position-some (has_number n) (λ (x : LentFile). x) s.parcel.writes y.0 (ap (option_map (λ (x : LentFile). x)) y.1)) in
    let q = find-position (has_number n) s.parcel.writes p.0 p.1 in
    p.1 ∙ ap Some (once_at (λ (x : LentFile). x.stands.ino) s.parcel.writes p.0 place y.0 f once (sym q.0 ∙ y.1) there (is ∙ sym number))

module _ (desk : DeskSeen) (out' : LibOut) (s : SessionSeen) (ino : ℕ) (f : LentFile) (may : MayEdit desk s) (closed : open_kind s ino ≡ None)
    (fresh : IsFreshLease desk.lib ino desk.sizes desk.out (Write f))
    (on : IsOn (record desk { out = out' }) (with_lease s (Write f))) where
  abbrev now : DeskSeen
  now = record desk { out = out' }

  abbrev taken : SessionSeen
  taken = with_lease s (Write f)

  order : IsInOrder now (in_hand s)
  order = order_now desk out' (in_hand s) may.order

  untouched : IsUntouched now (in_hand s) f
  untouched = untouched_now desk out' (in_hand s) f (fresh_is_untouched desk (in_hand s) ino f may.all.given fresh)

  takes : Takes now (in_hand s) (in_hand taken)
  takes = write.takes_write now (in_hand s) f order untouched

  more : HasPagesOf (in_hand s) (in_hand taken)
  more x i =
      subst (λ (b : Bundle). In x (bundle_sheets b)) (sym (write.bundle_is now (in_hand s) f order untouched))
      (write.sub now (in_hand s) f order untouched x i)

  more_pages : (page : ℕ) → In page (pages_in_hand (in_hand s)) → In page (pages_in_hand (in_hand taken))
  more_pages page i = pages_of_more (in_hand s) (in_hand taken) more page i

  own_pages : (page : ℕ) → In page (numbers_of_file f.lent) → In page (pages_in_hand (in_hand taken))
  own_pages page i =
      let x = map-In (λ (y : Sheet). y.page) page (lent_sheets f.lent) (subst (λ l. In page l) (sym (lent_sheet_numbers f.lent)) i) in
      subst (λ (b : Bundle). In page (sheet_numbers (bundle_sheets b))) (sym (write.bundle_is now (in_hand s) f order untouched))
      (subst (λ n. In n (sheet_numbers (bundle_sheets (record (bundle_of s.parcel) { writes = (bundle_of s.parcel).writes ++ written_in f.lent ∷ [] })))) (sym x.2)
      (In-map (λ (y : Sheet). y.page) x.0 (bundle_sheets (record (bundle_of s.parcel) { writes = (bundle_of s.parcel).writes ++ written_in f.lent ∷ [] })) (write.lent_sub now (in_hand s) f order untouched x.0 x.1)))

  shows : ShowsTrees now s
  shows = shows_now desk out' s may.shows

  -- ---- the files that are open

  files_once : are_new [] (file_numbers taken.parcel.writes) ≡ true
  files_once = takes.order.files

  -- a file that was written is found where it was
  found_still : (n : ℕ) (y : LentFile) → find (has_number n) s.parcel.writes ≡ Some y → find (has_number n) taken.parcel.writes ≡ Some y
  found_still n y e = find-push (has_number n) s.parcel.writes f y e

  -- a file that is open is open still
  opens_still : (n : ℕ) (kind : Kind) → open_kind s n ≡ Some kind → open_kind taken n ≡ Some kind
  opens_still n kind o = elim (opened s n kind o) [
    | inl w ↦ search (arith, found_still)
    | inr w ↦
        ap (λ q. option_or (option_map (λ (mf : MadeFile). mf.kind) q) (option_map (λ (x : Shown). x.kind) (written_file taken n))) w.found ∙ ap Some w.kind_is
  ]

  chain_still : (n : ℕ) (kind : Kind) → open_kind s n ≡ Some kind → chain_in taken n ≡ chain_in s n
  chain_still n kind o = elim (opened s n kind o) [
    | inr w ↦ chain-made taken n w.file w.found ∙ sym (chain-made s n w.file w.found)
    | inl w ↦
        let lt : w.place < length s.chains = (let l = slice_get_within s.parcel.writes w.place w.file w.there in omega (arith, l, may.beside)) in
        chain-written taken n w.place w.none (placed taken n w.place w.file files_once (left_at s.parcel.writes (f ∷ []) w.place w.file w.there) w.number)
        ∙ get_or_append_left s.chains (lent_chain f ∷ []) no_chain w.place lt
        ∙ sym (chain-written s n w.place w.none w.at)
  ]

  -- the file is none that was made
  unwritten : (mf : MadeFile) → In mf s.made → written_file s mf.ino ≡ None → written_file taken mf.ino ≡ None
  unwritten mf i out =
      let made : made_file s mf.ino ≡ Some mf = found_there desk s mf mf.ino may i refl in
      let opens : open_kind s mf.ino ≡ Some mf.kind = ap (λ q. option_or (option_map (λ (x : MadeFile). x.kind) q) (option_map (λ (x : Shown). x.kind) (written_file s mf.ino))) made in
      let other : f.stands.ino ≡ mf.ino → ⊥ =
      λ e. (let wrong : None ≡ Some mf.kind = sym closed ∙ ap (open_kind s) (sym (ap (λ (y : Shown). y.ino) untouched.as_lent ∙ fresh.is.ino) ∙ e) ∙ opens in cc wrong) in
      ap (option_map (λ (x : LentFile). x.stands)) (find-skip (has_number mf.ino) s.parcel.writes f (ne_eqb f.stands.ino mf.ino other)) ∙ out

  has : HasMadeOf s taken
  has = record {
    made = refl;
    cleared = refl;
    numbers = λ n i. i;
    unlent = λ mf i u. record { written = unwritten mf i u.written; held = u.held; read = u.read };
    page = λ mf i. page_in-more (in_hand s) (in_hand taken) mf.page more takes.order.pages (slot_held desk s mf may i);
    opens = opens_still;
    chain = chain_still;
  }

  body_still : (n : ℕ) (kind : Kind) → open_kind s n ≡ Some kind → body_in taken n ≡ body_in s n
  body_still n kind o =
      body-taken s taken n has (λ none. elim (opened s n kind o) [
        | inr w ↦ absurd (let wrong : None ≡ Some w.file = sym none ∙ w.found in cc wrong)
        | inl w ↦ search (arith, found_still)
      ])

  old_reads : (n : ℕ) (kind : Kind) → open_kind s n ≡ Some kind → ReadsBy now taken n kind
  old_reads n kind o =
      reads_by_more now s taken n kind more order.pages takes.order.pages (λ page i. may.own page (open_chained s n page (place_of_open desk s n kind may o) i))
      (body_still n kind o) (chain_still n kind o) (chains_now desk out' s may.chains n kind o)

  -- the file of the lease, where no file of its number was made
  own_reads : (n : ℕ) → made_file s n ≡ None → find (has_number n) s.parcel.writes ≡ None → f.stands.ino ≡ n → ReadsBy now taken n f.stands.kind
  own_reads n none out number =
      let r = untouched_reads now (in_hand taken) f takes.order (In-right f s.parcel.writes (f ∷ []) (inl refl)) untouched.as_lent untouched.well in
      let core : Core = core_in_hand now (in_hand taken) in
      let met : Met = written_at (bare_file f.stands) None in
      let found : find (has_number n) taken.parcel.writes ≡ Some f = find-last (has_number n) s.parcel.writes f out (eq-eqb f.stands.ino n number) in
      let body : body_in taken n ≡ f.stands.body = body-written taken n f.stands none (ap (option_map (λ (x : LentFile). x.stands)) found) in
      let end : length s.parcel.writes + 0 ≡ length s.chains = (let e = may.beside in omega (arith, e)) in
      let chain : chain_in taken n ≡ lent_chain f =
      chain-written taken n (length s.parcel.writes + 0) none (placed taken n (length s.parcel.writes + 0) f files_once (right_at s.parcel.writes (f ∷ []) 0 f refl) number)
      ∙ ap (λ i. slice_index_or (s.chains ++ lent_chain f ∷ []) i no_chain) end
      ∙ get_or-append_seam s.chains (lent_chain f) [] no_chain in
      let is_chain : r.0.chain ≡ chain_in taken n = r.3 ∙ sym chain in
      let named = named_reads core met r.0 r.1 (λ page i.
      let own : In page (numbers_of_file f.lent) = In-left page (lent_numbers f.lent.index) (lent_numbers f.lent.blocks) (subst (λ (c : Chain). In page c.index) r.3 i) in
      ap is_some (page_of-hand now (in_hand taken) page takes.order.pages (own_pages page own) (lent_is_core desk.sizes f.lent page untouched.well own))) in
      record {
        body = r.0.body;
        is = ap (body_of f.stands.kind desk.sizes.range) body ∙ (within_from core met r.0 r.1).body;
        count = named.1 ∙ ap (λ (c : Chain). length c.blocks) is_chain;
        head = named.2 ∙ ap (λ (c : Chain). get_or c.index 0 0) is_chain;
        named = subst (λ (c : Chain). IsNamed core c.index c.blocks) is_chain named.0;
      }

  reads : ChainsRead now taken
  reads n kind o' = search (arith, find-last, own_reads, eqb-true, find-skip, old_reads, found_still)

  -- ---- the chains

  abbrev front : List ℕ
  front = flat_map pages_of_chain s.chains

  abbrev back : List ℕ
  back = flat_map pages_of_chain (map (λ (mf : MadeFile). mf.chain) s.made)

  chained_was : chained s ≡ front ++ back
  chained_was = flat_map-append pages_of_chain s.chains (map (λ (mf : MadeFile). mf.chain) s.made)

  chained_is : chained taken ≡ (front ++ numbers_of_file f.lent) ++ back
  chained_is = search (arith, flat_map-append, append-nil)

  own_then : (page : ℕ) → In page (chained taken) → In page (pages_in_hand (in_hand taken))
  own_then page i =
      elim (In-cases page (front ++ numbers_of_file f.lent) back (subst (λ l. In page l) chained_is i)) [
        | inr b ↦ more_pages page (may.own page (subst (λ l. In page l) (sym chained_was) (In-right page front back b)))
        | inl a ↦ elim (In-cases page front (numbers_of_file f.lent) a) [
          | inl x ↦ more_pages page (may.own page (subst (λ l. In page l) (sym chained_was) (In-left page front back x)))
          | inr y ↦ own_pages page y
        ]
      ]

  once_then : are_new [] (chained taken) ≡ true
  once_then =
      ap (are_new []) chained_is
      ∙ new_between front (numbers_of_file f.lent) back (ap (are_new []) (sym chained_was) ∙ may.once) untouched.well.once
      (λ n i j. untouched.apart n i (may.own n (subst (λ l. In n l) (sym chained_was) j)))

  judges : (nodes nodes' : Nodes) (rows : List (Option Row)) → IsView now (in_hand s) (in_hand taken) nodes nodes' rows → JudgesSame now (in_hand s) (in_hand taken) nodes
  judges nodes nodes' rows v = judged_after_write now (in_hand s) f nodes nodes' rows untouched v

  -- a file that is read isn't written
  alone : (x : Shown) → In x s.reads → IsLeftAlone (in_hand taken) x.ino
  alone x i =
      let a = may.alone x i in (
        λ j. elim (In-cases x.ino (file_numbers s.parcel.writes) (f.stands.ino ∷ []) (subst (λ l. In x.ino l) (map-append (λ (y : LentFile). y.stands.ino) s.parcel.writes (f ∷ [])) j)) [
          | inl old ↦ a.0 old
          | inr own ↦ elim own [
            | inr no' ↦ no'
            | inl same ↦
                fresh.new (subst (λ n. In n (files_out desk.out)) (same ∙ ap (λ (y : Shown). y.ino) untouched.as_lent ∙ fresh.is.ino)
                (read_out desk.out s.parcel s.reads may.all x.ino (In-map (λ (y : Shown). y.ino) x s.reads i)))
          ]
        ],
        a.1,
      )

  sound_now : IsSound taken.parcel taken.reads
  sound_now =
      let was = sound desk.out s.parcel s.reads may.all in
      record {
        files = λ g i. elim (In-cases g s.parcel.writes (f ∷ []) i) [
          | inl old ↦ was.files g old
          | inr own ↦ elim own [ inl e ↦ subst StandsAsLent (sym e) (fresh_stands desk.lib ino desk.sizes desk.out f fresh) | inr none ↦ absurd none ]
        ];
        whole = was.whole;
        files_once = takes.order.files;
        holds_once = was.holds_once;
        pages_once = was.pages_once;
        numbers_once = was.numbers_once;
        reads_once = was.reads_once;
      }

  took_write : TookMore now s taken
  took_write = record {
    takes = takes;
    may = record {
      on = on;
      all = hands_in now taken on sound_now;
      given = record { holds = may.given.holds; numbers = may.given.numbers };
      order = takes.order;
      shows = shows_after now s taken (λ nodes. nodes) shows takes;
      alone = alone;
      beside = length-append s.chains (lent_chain f ∷ []) ∙ ap (λ n. n + 1) may.beside ∙ sym (length-append s.parcel.writes (f ∷ []));
      chains = reads;
      own = own_then;
      once = once_then;
      placed = may.placed;
      made = made_taken now s taken order shows takes has judges (made_now desk out' s may.made);
      entries = entries_taken now s taken order shows takes has judges (entries_now desk out' s may.entries);
      held = λ h nodes rows i possible. held_now desk out' s may.held h nodes rows i (takes.more nodes rows possible);
    };
  }

pub keeps_write : KeepsWrite
keeps_write desk desk' s ino kind f may closed fresh seen on =
    let e = desk_after desk desk' _ _ seen in
    subst (λ d. TookMore d s (with_lease s (Write f))) (sym e)
    (took_write desk desk'.out s ino f may closed fresh (subst (λ d. IsOn d (with_lease s (Write f))) e on))
