-- The line of the totals is five names with their numbers, put one after the other; each uses the room of its name and a word.
use Rattle.std.proofs.Common.{arith}
use Rattle.model.specs.Listing.{total_word, gate_word, road_word, ramp_word}
use Rattle.numbers.specs.PlacedText.{room_more}
use Rattle.listing.specs.WordsLaws.{NamedNumber, number_room}
use Rattle.listing.specs.ListingLaws.{total_put}
use Rattle.listing.proofs.total.Goals as goal

pub named-to_road-requires : goal.named-to_road-requires
named-to_road-requires c =
    let one = number_room {name = total_word} (NamedNumber.put c.named-to_gate.ensures) in
    omega (arith, one.end, one.same)

pub named-to_ramp-requires : goal.named-to_ramp-requires
named-to_ramp-requires c =
    let one = number_room {name = total_word} (NamedNumber.put c.named-to_gate.ensures) in
    let two = room_more one (number_room {name = gate_word} (NamedNumber.put c.named-to_road.ensures)) in
    omega (arith, two.end, two.same)

pub named-to_exits-requires : goal.named-to_exits-requires
named-to_exits-requires c =
    let one = number_room {name = total_word} (NamedNumber.put c.named-to_gate.ensures) in
    let two = room_more one (number_room {name = gate_word} (NamedNumber.put c.named-to_road.ensures)) in
    let three = room_more two (number_room {name = road_word} (NamedNumber.put c.named-to_ramp.ensures)) in
    omega (arith, three.end, three.same)

pub named-requires : goal.named-requires
named-requires c =
    let one = number_room {name = total_word} (NamedNumber.put c.named-to_gate.ensures) in
    let two = room_more one (number_room {name = gate_word} (NamedNumber.put c.named-to_road.ensures)) in
    let three = room_more two (number_room {name = road_word} (NamedNumber.put c.named-to_ramp.ensures)) in
    let four = room_more three (number_room {name = ramp_word} (NamedNumber.put c.named-to_exits.ensures)) in
    omega (arith, four.end, four.same)

pub returns : goal.returns
returns c =
    total_put
    (NamedNumber.put c.named-to_gate.ensures)
    (NamedNumber.put c.named-to_road.ensures)
    (NamedNumber.put c.named-to_ramp.ensures)
    (NamedNumber.put c.named-to_exits.ensures)
    (NamedNumber.put c.named.ensures)
