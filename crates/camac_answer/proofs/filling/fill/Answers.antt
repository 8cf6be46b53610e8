use Rattle.std.proofs.Common.{◌≡◌, ◌≤◌, ◌<◌, ◌-◌, ◌∙◌, ◌⊎◌, inl, inr, length, slice_index, arith, rules, ℕ, ◌+◌, List, ◌++◌, take, drop, Option, ap, sym, subst, length-take-le, length-drop, take-add, take-take, take_at, drop_at}
use Rattle.std.proofs.Math.Bool.{or-false}
use Rattle.camac_answer.proofs.filling.fill.Goals as goal
use Rattle.std.proofs.lemmas.List.{get_or-take}
use Rattle.std.proofs.lemmas.Slice.{take-put_mid, take-put_mid_below}
use Rattle.std.proofs.KnownBytes.{Consumes-trans}
use Rattle.std.specs.Io.KnownBytes.{Consumes}
use Rattle.camac_answer.specs.Lines.{first_line}
use Rattle.camac_answer.proofs.Readings.{inside_at}
use borrow.Rule.Slice.PartMut.{put_mid, same_len_mid}

-- The bytes that were read into a line.

-- n bytes were read after those before them
take_filled : (line part : List ℕ) (len room n : ℕ) → len ≤ length line → n ≤ length part → take (len + n) (put_mid len room line part) ≡ take len line ++ take n part
take_filled line part len room n within few =
    let prefix = length-take-le len line within in
    sym (take-take (len + n) (len + length part) (put_mid len room line part) (omega (arith, few)))
    ∙ ap (take (len + n)) (take-put_mid len room line part (len + length part) (omega arith) within)
    ∙ take-add len n (take len line ++ part)
    ∙ (λ k. take_at (take len line) part len prefix k ++ take n (drop_at (take len line) part len prefix k))

filled : (line part : List ℕ) (len room n : ℕ) (a b c : Option (List ℕ)) → len ≤ length line → n ≤ length part
    → Consumes a b (take len line) → Consumes b c (take n part) → Consumes a c (take (len + n) (put_mid len room line part))
filled line part len room n a b c within few before now =
    subst (λ (l : List ℕ). Consumes a c l) (sym (take_filled line part len room n within few)) (Consumes-trans a b c (take len line) (take n part) before now)

-- the line has its length still
same_length : (line part : List ℕ) (len room : ℕ) → len + room ≤ length line → length part ≡ room → length (put_mid len room line part) ≡ length line
same_length line part len room within long =
    same_len_mid len room line part (omega (arith, long, length-take-le room (drop len line) (omega (arith, length-drop len line, within))))

-- the eighth byte is no LF, where more than eight bytes were read
none_at : (line part : List ℕ) (len room n : ℕ) → len ≤ length line → (len + room ≤ 8) ⊎ (8 ≤ len) → n ≤ room → (len ≡ 0) ⊎ (len ≤ length (first_line (take len line)))
    → 8 < len + n → slice_index (put_mid len room line part) 7 ≡ 10 → ⊥
none_at line part len room n within (inl few) most on more lf = absurd (omega (arith, few, most, more))
none_at line part len room n within (inr enough) most (inl none) more lf = absurd (omega (arith, enough, none))
none_at line part len room n within (inr enough) most (inr on) more lf =
    let below : slice_index (put_mid len room line part) 7 ≡ slice_index line 7 =
    sym (get_or-take 8 (put_mid len room line part) 7 0 (omega arith)) ∙ ap (λ (l : List ℕ). slice_index l 7) (take-put_mid_below len room line part 8 enough within) ∙ get_or-take 8 line 7 0 (omega arith) in
    inside_at (take len line) 7 (omega (arith, enough, on)) (get_or-take len line 7 0 (omega (arith, enough)) ∙ sym below ∙ lf)

pub pieces-preserved : goal.pieces-preserved
pieces-preserved g c =
    let line = c.pieces.line in
    let len = c.pieces.len in
    let part = c.read_piece.new.buf in
    let end = c.piece_end-end.result in
    let long : length part ≡ end - len = search rules in
    let few : c.in-Ok.taken ≤ length part = search rules in
    let within : len ≤ length line = omega (arith, c.pieces.invariant.within, c.pieces.invariant.room) in
    record {
      within = omega (arith, few, long, within, c.pieces.invariant.room, c.piece_end-end.ensures.within);
      room = same_length line part len (end - len) (omega (arith, c.piece_end-end.ensures.within, c.piece_end-end.ensures.later)) long ∙ c.pieces.invariant.room;
      bytes = filled line part len (end - len) c.in-Ok.taken _ _ _ within few c.pieces.invariant.bytes c.in-Ok.ensures.bytes.0;
      no_more = none_at line part len (end - len) c.in-Ok.taken within (search rules) (omega (arith, few, long)) (search rules);
      flag = c.in-Ok.ensures.failed ∙ or-false _ ∙ c.pieces.invariant.flag;
    }
