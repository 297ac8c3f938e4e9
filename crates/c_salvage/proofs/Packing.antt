-- Nothing of a result is cut.
use Rattle.numbers.proofs.Kit.{◌≡◌, refl, sym, subst, Bool, true, false, cond, List, ◌++◌, Option, none, some, ℕ, ◌≤◌, arith, eqb, leb, length, drop}
use Rattle.numbers_format.specs.Numbers.{ByteString}
use Rattle.numbers_format.specs.Parser.{Parsed, parse}
use Rattle.numbers_format.specs.Parser.Parsed.{whole, stopped}
use Rattle.numbers_format.proofs.FormatLaws.{ParseRight, parse-right}
use Rattle.image.specs.declared.ImageError.TheVariants.{BadArguments, NoRoom}
use Rattle.image.specs.Answers.{ImageReply, image_done, image_reply}
use Rattle.image.specs.Images.{spelled, IsImage}
use Rattle.image.specs.ImageFormat.{Described, image_format}
use Rattle.image.proofs.ImageLaws.{image-live}
use Rattle.image.proofs.Images.{format-is-images}
use Rattle.c_image.specs.Theorems.{PacksWhole}
use Rattle.c_image.proofs.Bounds.{most, image-short, Stops, place_short}
use Rattle.c_image.proofs.Packing.{Small, packs}
use Rattle.image_salvage.specs.Salvage.{fault_place, place_in, KeptPart, kept_in, SalvageOutcome, salvaged, salvage_of, salvage}
use Rattle.image_salvage.proofs.Keeps.{kept-image}
use Rattle.c_salvage.specs.SalvageCalls.{report_bytes, packed_salvage, HostSalvaged, salvaged_out, shown_salvage, host_salvage}
use Rattle.c_salvage.specs.Theorems.{SalvagePacksWhole}

pub image-small : (s : List ℕ) → IsImage s → length s ≤ most
image-small s i = subst (λ (z : List ℕ). length z ≤ most) (sym i.is-its-image) (image-short i.machine i.seals i.registers i.marks i.not-at-fault)

module _ (s : List ℕ) (b : ByteString s) where
  pub place-small : place_in s ≤ most
  unfolding place_in
  place-small = go (parse image_format s) (parse-right image_format s image-live b) (place_short s)
    where
      go : (q : Parsed Described) → ParseRight image_format s q → Stops most q → fault_place s q ≤ most
      go (whole d) a h = image-small s ((format-is-images s).1 (d, a))
      go (stopped p) a h = h

  abbrev reply : SalvageOutcome → ImageReply
  reply o = record { number = o.answer.number; place = o.place }

  out-small : (room : List ℕ) → Small (reply (salvage s room)) (salvage s room).size
  unfolding salvage
  out-small room = go (kept_in s) refl
    where
      go : (q : Option KeptPart) → kept_in s ≡ q → Small (reply (salvage_of (place_in s) q room)) (salvage_of (place_in s) q room).size
      go none e = record { number_small = omega arith; size_small = omega arith; place-small = place-small }
      go (some k) e = by (leb (length (spelled k.header k.body)) (length room))
        where
          fresh : List ℕ
          fresh = spelled k.header k.body

          out : Bool → SalvageOutcome
          out t = cond t (salvaged image_done (length k.body) k.announced (place_in s) (length fresh) (fresh ++ drop (length fresh) room)) (salvaged (image_reply NoRoom) 0 0 (place_in s) 0 room)

          by : (t : Bool) → Small (reply (out t)) (out t).size
          by true = record { number_small = omega arith; size_small = image-small fresh (kept-image s b k e); place-small = place-small }
          by false = record { number_small = omega arith; size_small = omega arith; place-small = place-small }

pub salvage-packs-whole : SalvagePacksWhole
unfolding host_salvage
salvage-packs-whole image room report b = go (eqb (length report) report_bytes)
  where
    o : SalvageOutcome
    o = salvage image room

    out : Bool → HostSalvaged
    out t = cond t (shown_salvage report o) (salvaged_out (packed_salvage 8 0 0) room report)

    go : (t : Bool) → let q : SalvageOutcome = cond t o (salvaged (image_reply BadArguments) 0 0 0 0 room) in PacksWhole (out t).result (record { number = q.answer.number; place = q.place }) q.size
    go true = packs (record { number = o.answer.number; place = o.place }) o.size (out-small image b room)
    go false = packs (record { number = 8; place = 0 }) 0 (record { number_small = omega arith; size_small = omega arith; place-small = omega arith })
