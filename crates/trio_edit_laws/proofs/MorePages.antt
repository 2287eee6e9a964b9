-- More is in hand: the pages that were there are there still, with their bytes, and files that are open read by their chains.
use Rattle.trio_edit_laws.proofs.Words.{◌∙◌, ◌≡◌, Chain, DeskSeen, In, In-left, In-map, InHand, IsNamed, Kind, List, ReadsBy, SessionSeen, Sheet, [], ap, are_new, body_in, body_of, bundle_of, bundle_sheets, chain_in, core_in_hand, get_or, get_or-In, in_hand, length, map-In, one_keyed, page_in, pages_in_hand, sheet_at, sheets_of, subst, sym, true, ℕ}
use Rattle.trio_laws.proofs.session.Reading.{page_kept}
use Rattle.trio_edit_laws.proofs.Opens.{pages_of_chain}

-- what has all the pages of the first
abbrev pub HasPagesOf : InHand → InHand → Type 0
HasPagesOf h h' = (x : Sheet) → In x (bundle_sheets (bundle_of h.parcel)) → In x (bundle_sheets (bundle_of h'.parcel))

-- so it has their numbers
pub pages_of_more : (h h' : InHand) → HasPagesOf h h' → (page : ℕ) → In page (pages_in_hand h) → In page (pages_in_hand h')
pages_of_more h h' more page i =
    let sheets : List Sheet = bundle_sheets (bundle_of h.parcel) in
    let x = map-In (λ (y : Sheet). y.page) page sheets i in
    subst (λ n. In n (pages_in_hand h')) (sym x.2) (In-map (λ (y : Sheet). y.page) x.0 (bundle_sheets (bundle_of h'.parcel)) (more x.0 x.1))

-- and each page with its bytes
pub page_in-more : (h h' : InHand) (n : ℕ) → HasPagesOf h h' → are_new [] (pages_in_hand h') ≡ true → In n (pages_in_hand h) → page_in h'.parcel n ≡ page_in h.parcel n
page_in-more h h' n more once i =
    let x = sheet_at h.parcel n i in
    let y = sheet_at h'.parcel n (pages_of_more h h' more n i) in
    y.3 ∙ ap (λ (z : Sheet). z.bytes) (one_keyed (λ (z : Sheet). z.page) (sheets_of h'.parcel) y.0 x.0 once y.1 (more x.0 x.1) (y.2 ∙ sym x.2)) ∙ sym x.3

-- a file that is open reads by its chain, whose pages are in hand, where more is in hand
pub reads_by_more : (desk : DeskSeen) (s s' : SessionSeen) (n : ℕ) (kind : Kind) → HasPagesOf (in_hand s) (in_hand s') → are_new [] (pages_in_hand (in_hand s)) ≡ true → are_new [] (pages_in_hand (in_hand s')) ≡ true
    → ((page : ℕ) → In page (pages_of_chain (chain_in s n)) → In page (pages_in_hand (in_hand s))) → body_in s' n ≡ body_in s n → chain_in s' n ≡ chain_in s n
    → ReadsBy desk s n kind → ReadsBy desk s' n kind
reads_by_more desk s s' n kind more once once' own body chain r =
    let was : Chain = chain_in s n in
    record {
      body = r.body;
      is = ap (body_of kind desk.sizes.range) body ∙ r.is;
      count = r.count ∙ ap (λ (c : Chain). length c.blocks) (sym chain);
      head = r.head ∙ ap (λ (c : Chain). get_or c.index 0 0) (sym chain);
      named = subst (λ (c : Chain). IsNamed (core_in_hand desk (in_hand s')) c.index c.blocks) (sym chain) (record {
        many = r.named.many;
        each = λ k lt.
            let share = r.named.each k lt in
            record {
              bytes = share.bytes;
              there =
                  page_kept desk.sizes.range desk.sizes.inodes (bundle_sheets (bundle_of s.parcel)) (bundle_sheets (bundle_of s'.parcel)) (get_or was.index k 0) once once' more
                  (own (get_or was.index k 0) (In-left (get_or was.index k 0) was.index was.blocks (get_or-In was.index k 0 lt)))
                  ∙ share.there;
              names = share.names;
            };
      });
    }
