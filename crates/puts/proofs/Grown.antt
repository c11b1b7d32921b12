-- The tables with what a line writes are those of the sheet with that line. Assumes nothing.
use Prim.Native.Nat.{ℕ, ◌+◌, ◌-◌, ◌*◌}
use native.Mathlib.Omega.{arith}
use mathlib.Core.Path.{◌≡◌, refl, sym, ap, ◌∙◌}
use mathlib.Core.List.{List, [], ◌∷◌}
use lib.ListN.{length, replicate, length-append, length-replicate}
use lib.Seq.{take_all}
use Rattle.std.specs.Prelude.{Option, Some, None}
use Rattle.spirv.specs.declared.MemberDecoration.{MemberDecoration}
use Rattle.spirv.specs.declared.SpvType.{SpvType}
use Rattle.spirv.specs.declared.DeclRow.{DeclRow}
use Rattle.spirv.specs.Decl.{Decl}
use Rattle.spirv.specs.Rows.{encode_row}
use Rattle.spirv.specs.Reduced.{reduced, decl_row, given_words}
use Rattle.spirv.proofs.Rows.{row_length}
use Rattle.sheet.specs.Sheet.{member_count}
use Rattle.sheet.specs.Tables.{types_words, members_words, offsets_words}
use Rattle.sheet.proofs.Tables.{types_length, members_length, offsets_length, types_more, members_more, offsets_more}
use Rattle.lines.specs.declared.SheetLine.{SheetLine}
use Rattle.lines.specs.declared.SheetLine.TheVariants as says
use Rattle.tally.specs.declared.Place.{Place}
use Rattle.tally.specs.declared.Place.TheVariants.{Closed, Open, After}
use Rattle.tally.specs.declared.Tally.{Tally}
use Rattle.tally.proofs.Decorated.{decorated, row_decorated}
use Rattle.tally.proofs.Went.{Added, Redone, RedoneAt, Grows}
use Rattle.puts.specs.Puts.{Untouched, fresh_row, Declaring, RedecoratingAll, PutDecoration, Put}
use Rattle.puts.specs.Puts.{Filled}
use Rattle.puts.proofs.Stores.{words_more, last_again}
use Rattle.puts.proofs.Offsets.{offsets_redone}

-- ---- a type more

fresh_row_lem : (ty : SpvType) (start : ℕ) (ms : List ℕ) → fresh_row ty start (length ms) ≡ decl_row start (record { type = ty; members = ms; decorations = [] })
unfolding fresh_row decl_row reduced
fresh_row_lem ty start ms = refl

fresh_given : (ty : SpvType) (ms : List ℕ) → replicate (length ms) 0 ≡ given_words (record { type = ty; members = ms; decorations = [] })
unfolding given_words reduced
fresh_given ty ms = let z : List ℕ = replicate (length ms) 0 in sym (take_all (length ms) z (omega (arith, length-replicate {A = ℕ} (length ms) 0)))

module _ {ty₀ me₀ gi₀ ty me gi ty' me' gi' : List ℕ} {ts us : List Decl} where
  added : {t : Tally} {line : List ℕ} {k : SpvType} {n at : ℕ} → t.types ≡ length ts → t.members ≡ member_count ts → Added t.types line k n at ts us
      → Filled ts ty₀ me₀ gi₀ ty me gi → Declaring t line k n at ty me gi ty' me' gi' → Filled us ty₀ me₀ gi₀ ty' me' gi'
  added {t} {line} {k} {n} {at} ht hm a f p =
      let d : Decl = record { type = k; members = a.members; decorations = [] } in
      let z : 0 + member_count ts ≡ member_count ts = omega arith in
      record {
        types = p.types ∙ (rw (f.types, a.types, types_more 0 ts d, z, ht, hm, ← a.count, fresh_row_lem k (member_count ts) a.members) (words_more ty₀ (types_words 0 ts) (encode_row (decl_row (member_count ts) d)) (6 * length ts) (types_length 0 ts)));
        members = p.members a.members a.read ∙ (rw (f.members, a.types, members_more ts d, hm) (words_more me₀ (members_words ts) a.members (member_count ts) (members_length ts)));
        given = p.given ∙ (rw (f.given, a.types, offsets_more ts d, hm, ← a.count, fresh_given k a.members) (words_more gi₀ (offsets_words ts) (given_words d) (member_count ts) (offsets_length ts)));
      }

  redone : {count : ℕ} {row : DeclRow} {d : MemberDecoration} → count ≡ length ts → Redone row d ts us
      → Filled ts ty₀ me₀ gi₀ ty me gi → RedecoratingAll row d count ty me gi ty' me' gi' → Filled us ty₀ me₀ gi₀ ty' me' gi'
  redone {count} {row} {d} hc r f p =
      let last' = decorated r.last d in
      let z : 0 + member_count r.above ≡ member_count r.above = omega arith in
      let n : 6 * (count - 1) ≡ 6 * length r.above = omega (arith, ap length r.was, length-append r.above (r.last ∷ [])) in
      let lengths : length (encode_row (decl_row (member_count r.above) r.last)) ≡ length (encode_row (decl_row (member_count r.above) last')) =
      row_length (decl_row (member_count r.above) r.last) ∙ sym (row_length (decl_row (member_count r.above) last')) in
      record {
        types = p.last.types ∙ (rw (f.types, r.was, r.now, r.held, types_more 0 r.above r.last, types_more 0 r.above last', z, n, row_decorated (member_count r.above) r.last d r.struct)
            (last_again ty₀ (types_words 0 r.above) (encode_row (decl_row (member_count r.above) r.last)) (encode_row (decl_row (member_count r.above) last')) (6 * length r.above) (types_length 0 r.above) lengths));
        members = p.members ∙ (rw (f.members, r.was, r.now, members_more r.above r.last, members_more r.above last'));
        given = p.last.given ∙ (rw (f.given, r.was, r.now, r.held, offsets_more r.above r.last, offsets_more r.above last')
            (offsets_redone gi₀ (offsets_words r.above) (member_count r.above) r.last d (offsets_length r.above) r.struct));
      }

  as_before : us ≡ ts → Filled ts ty₀ me₀ gi₀ ty me gi → Untouched ty me gi ty' me' gi' → Filled us ty₀ me₀ gi₀ ty' me' gi'
  as_before e f p = record { types = p.types ∙ (rw e f.types); members = p.members ∙ (rw e f.members); given = p.given ∙ (rw e f.given) }

  -- ---- any line

  decoration : (place : Place) (count : ℕ) (d : MemberDecoration) → count ≡ length ts → RedoneAt place d ts us
      → Filled ts ty₀ me₀ gi₀ ty me gi → PutDecoration place d count ty me gi ty' me' gi' → Filled us ty₀ me₀ gi₀ ty' me' gi'
  decoration Closed count d h r f p = absurd r
  decoration (Open row) count d h r f p = redone h r f p
  decoration (After row c) count d h r f p = redone h r f p

  pub grown : (t : Tally) (line : List ℕ) (l : Option SheetLine) → t.types ≡ length ts → t.members ≡ member_count ts → Grows t.types line t.place l ts us
      → Filled ts ty₀ me₀ gi₀ ty me gi → Put t line l ty me gi ty' me' gi' → Filled us ty₀ me₀ gi₀ ty' me' gi'
  grown t line (Some (says.Setting g)) ht hm w f p = absurd w
  grown t line (Some (says.Declared k n at)) ht hm w f p = added ht hm w f p
  grown t line (Some (says.Decorated d)) ht hm w f p = decoration t.place t.types d ht w f p
  grown t line (Some (says.Asked a at)) ht hm w f p = as_before w f p
  grown t line None ht hm w f p = absurd w
