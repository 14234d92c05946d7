mod Promising
